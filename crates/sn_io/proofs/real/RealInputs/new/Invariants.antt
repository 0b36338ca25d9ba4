use Rattle.std.proofs.Common.{◌≡◌, map, take}
use Rattle.std.specs.String.{string_bytes}
use Rattle.sn_io.specs.Entries.{entries}
use Rattle.sn_io.proofs.real.RealInputs.new.Given as goal

abbrev pub invariant-loop-word : goal.invariant-loop-word
invariant-loop-word l = entries l.known.items ≡ map (λ w. (string_bytes w, 0)) (take l.word-index l.words)
