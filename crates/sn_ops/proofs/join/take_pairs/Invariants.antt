use Rattle.std.proofs.Common.{List, ◌++◌, take, map}
use Rattle.sn_base.specs.Groups.{Row}
use Rattle.sn_ops.specs.Joins.{both}
use Rattle.sn_ops.specs.Standing.{Stands}
use Rattle.sn_ops.proofs.join.take_pairs.Given as goal

abbrev pub invariant-loop-right : goal.invariant-loop-right
invariant-loop-right g l = (rows : List Row) → Stands l.level l.ops l.initial.seen rows l.initial.out → Stands l.level l.ops l.seen (rows ++ map (both l.lefts l.rights (g.R.Columns.columns l.left)) (take l.right-index (map g.R.Columns.columns l.found))) l.out
