use Rattle.std.proofs.Common.{◌≡◌, drop}
use Rattle.sn_text.specs.Cutting.{has_dot}
use Rattle.sn_text.proofs.numbers.has_a_dot.Given as goal

abbrev pub invariant-loop-b : goal.invariant-loop-b
invariant-loop-b l = has_dot (drop l.b-index l.word) ≡ has_dot l.word
