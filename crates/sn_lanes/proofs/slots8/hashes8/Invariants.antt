use Rattle.std.proofs.Common.{◌≡◌, map}
use Rattle.sn_lanes.proofs.RowLemmas.{hash_to}
use Rattle.sn_lanes.proofs.slots8.hashes8.Given as goal

abbrev pub invariant-loop-place : goal.invariant-loop-place
invariant-loop-place g l = l.hash ≡ map (λ key. hash_to l.fn.index l.place (g.R.Columns.columns key)) l.keys
