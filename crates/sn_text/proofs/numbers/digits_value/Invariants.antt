use Rattle.std.proofs.Common.{◌≡◌, drop}
use Rattle.sn_text.specs.Cutting.{digits_after}
use Rattle.sn_text.proofs.numbers.digits_value.Given as goal

abbrev pub invariant-loop-b : goal.invariant-loop-b
invariant-loop-b l = digits_after l.base l.number (drop l.b-index l.word) ≡ digits_after l.base 0 l.word
