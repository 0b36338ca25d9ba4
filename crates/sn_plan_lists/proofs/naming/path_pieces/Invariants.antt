use Rattle.std.proofs.Common.{◌≡◌, ◌++◌, drop}
use Rattle.sn_plan_lists.specs.Chosen.{path_seats, pieces_at, after_pieces}
use Rattle.sn_plan_lists.proofs.naming.path_pieces.Given as goal

abbrev pub invariant-loop-level : goal.invariant-loop-level
invariant-loop-level l =
    (l.pieces ++ pieces_at l.s (path_seats l.branches (drop l.level-index l.path)) l.rest ≡ pieces_at l.s (path_seats l.branches l.path) l.choices)
    × (after_pieces l.s (path_seats l.branches (drop l.level-index l.path)) l.rest ≡ after_pieces l.s (path_seats l.branches l.path) l.choices)
