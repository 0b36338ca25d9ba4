use Rattle.std.proofs.Common.{◌≡◌, take}
use Rattle.sn_base.proofs.row_list.widened.Given as goal

abbrev pub invariant-loop-place : goal.invariant-loop-place
invariant-loop-place l = l.wide ≡ take l.place l.rows
