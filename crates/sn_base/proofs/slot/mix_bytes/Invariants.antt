use Rattle.std.proofs.Common.{◌≡◌, fold, take}
use Rattle.sn_base.specs.Slot.{fnv_step}
use Rattle.sn_base.proofs.slot.mix_bytes.Given as goal

abbrev pub invariant-loop-byte : goal.invariant-loop-byte
invariant-loop-byte l = l.mixed ≡ fold fnv_step l.hash (take l.byte-index l.bytes)
