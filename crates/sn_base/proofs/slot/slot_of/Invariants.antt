use Rattle.std.proofs.Common.{◌≡◌, take}
use Rattle.sn_base.specs.Slot.{row_hash}
use Rattle.sn_base.proofs.slot.slot_of.Given as goal

abbrev pub invariant-loop-place : goal.invariant-loop-place
invariant-loop-place g l = l.hash ≡ row_hash l.index (take l.place (g.R.Columns.columns l.key))
