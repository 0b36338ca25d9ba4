use Rattle.std.proofs.Common.{◌≡◌, ◌+◌, drop}
use Rattle.sn_text.specs.Cutting.{run, is_digit}
use Rattle.sn_text.proofs.numbers.digits_len.Given as goal

abbrev pub invariant-loop-i : goal.invariant-loop-i
invariant-loop-i l = l.i + run is_digit (drop l.i l.bytes) ≡ run is_digit l.bytes
