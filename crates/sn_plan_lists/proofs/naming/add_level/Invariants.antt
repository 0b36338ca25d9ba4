use Rattle.std.proofs.Common.{◌≡◌, ◌++◌, drop}
use Rattle.sn_plan_lists.specs.Chosen.{level_seats, pieces_at, after_pieces}
use Rattle.sn_plan_lists.proofs.naming.add_level.Given as goal

abbrev pub invariant-loop-branch : goal.invariant-loop-branch
invariant-loop-branch l =
    (l.number ≡ l.branch-index)
    × (l.pieces ++ pieces_at l.s (level_seats l.level l.number (drop l.branch-index l.branches)) l.rest ≡ l.fn.pieces ++ pieces_at l.s (level_seats l.level 0 l.branches) l.choices)
    × (after_pieces l.s (level_seats l.level l.number (drop l.branch-index l.branches)) l.rest ≡ after_pieces l.s (level_seats l.level 0 l.branches) l.choices)
