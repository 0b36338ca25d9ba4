use Rattle.std.proofs.Common.{◌≡◌, [], replicate}
use Rattle.sn_chain.proofs.cells.bare_wholes.Given as goal

abbrev pub invariant-loop-place : goal.invariant-loop-place
invariant-loop-place g l = l.wholes ≡ replicate l._place []
