use Rattle.std.proofs.Common.{◌≡◌, map, take, slice_index}
use Rattle.sn_detect.proofs.detect.numbers_of.Given as goal

abbrev pub invariant-loop-row : goal.invariant-loop-row
invariant-loop-row g l = l.numbers ≡ map (λ row. slice_index (g.R.Columns.columns row) l.place) (take l.row-index l.rows)
