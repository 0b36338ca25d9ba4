use Rattle.std.proofs.Common.{◌≡◌, ◌+◌, drop}
use Rattle.sn_text.specs.Cutting.{run, is_word_byte}
use Rattle.sn_text.proofs.numbers.word_len.Given as goal

abbrev pub invariant-loop-i : goal.invariant-loop-i
invariant-loop-i l = l.i + run is_word_byte (drop l.i l.bytes) ≡ run is_word_byte l.bytes
