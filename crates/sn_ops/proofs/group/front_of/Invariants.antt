use Rattle.std.proofs.Common.{◌≡◌, take}
use Rattle.sn_ops.proofs.group.front_of.Given as goal

abbrev pub invariant-loop-place : goal.invariant-loop-place
invariant-loop-place g l = g.R.Columns.columns l.front ≡ take l.place (g.R.Columns.columns l.row)
