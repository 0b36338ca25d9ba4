use Rattle.std.proofs.Common.{◌≡◌, map, take, slice_index}
use Rattle.std.specs.FinSet as set
use Rattle.sn_refine.proofs.members.numbers_of.Given as goal

abbrev pub invariant-loop-row : goal.invariant-loop-row
invariant-loop-row g l = l.members ≡ set.from_list (map (λ row. slice_index (g.R.Columns.columns row) l.place) (take l.row-index l.rows))
