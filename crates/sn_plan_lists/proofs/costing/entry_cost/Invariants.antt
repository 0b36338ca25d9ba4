use Rattle.std.proofs.Common.{◌≡◌, ◌+◌, ◌*◌, ◌^◌, ◌≤◌, drop}
use Rattle.std.specs.List.{sum_by}
use Rattle.sn_plan_choices.specs.Costs.{entry_in}
use Rattle.sn_plan_lists.specs.Costs.{piece_cost, entry_cost}
use Rattle.sn_plan_lists.proofs.costing.entry_cost.Given as goal

abbrev pub invariant-loop-piece : goal.invariant-loop-piece
invariant-loop-piece l =
    (l.cost + sum_by (piece_cost l.s (entry_in l.c) l.n l.query l.entry.levels) (drop l.piece-index l.entry.pieces) ≡ entry_cost l.s (entry_in l.c) l.n l.query l.entry)
    × (l.cost ≤ l.piece-index * 2 ^ 56)
