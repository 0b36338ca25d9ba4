use Rattle.std.proofs.Common.{◌≡◌, take}
use Rattle.std.specs.List.{fold}
use Rattle.sn_base.specs.Seeds.{mixed}
use Rattle.sn_base.proofs.seed.mixed_bytes.Given as goal

abbrev pub invariant-loop-byte : goal.invariant-loop-byte
invariant-loop-byte l = l.after ≡ fold mixed l.state (take l.byte-index l.bytes)
