use Rattle.std.proofs.Common.{◌≡◌, ◌++◌, fold, length, take}
use Rattle.std.specs.Hash as fed
use Rattle.std.specs.List.{flat_map}
use Rattle.sn_base.specs.Rows.{halves}
use Rattle.sn_base.proofs.row.RowHash.hash.Given as goal

abbrev pub invariant-loop-column : goal.invariant-loop-column
invariant-loop-column g l = l.state ≡ fold g.H.Hasher.write l.fn.state (fed.usize (length l.self) ++ flat_map halves (take l.column-index l.column-items))
