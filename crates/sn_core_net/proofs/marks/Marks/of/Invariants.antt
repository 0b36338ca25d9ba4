use Rattle.std.proofs.Common.{take}
use Rattle.sn_core_net.specs.Marks.{AreMarksFrom}
use Rattle.sn_core_net.proofs.marks.Marks.of.Given as goal

abbrev pub invariant-loop-place : goal.invariant-loop-place
invariant-loop-place l = AreMarksFrom 0 l.room (take l.place l.lanes) l.marks
