use Rattle.std.proofs.Common.{◌≡◌, drop}
use Rattle.sn_plan_fit.specs.Paths.{places, are_at}
use Rattle.sn_plan_fit.proofs.path.are_pieces.Given as goal

abbrev pub invariant-loop-level : goal.invariant-loop-level
invariant-loop-level l = are_at (places l.branches (drop l.level-index l.path)) l.rest ≡ are_at (places l.branches l.path) l.pieces
