use Rattle.std.proofs.Common.{take}
use Rattle.sn_lanes_narrow.specs.Asked.{AreColumnsOf}
use Rattle.sn_lanes_narrow.proofs.asked.fill_all.Given as goal

abbrev pub invariant-loop-column : goal.invariant-loop-column
invariant-loop-column l = AreColumnsOf l.tuples (take l.column-index l.columns)
