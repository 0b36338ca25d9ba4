use Rattle.std.proofs.Common.{◌≡◌, ◌+◌, ◌*◌, ◌^◌, ◌≤◌, drop}
use Rattle.sn_plan_choices.specs.Costs.{entry_in}
use Rattle.sn_plan_lists.specs.Costs.{plan_cost}
use Rattle.sn_plan_lists.proofs.Counts.{HavePieces}
use Rattle.sn_plan_lists.proofs.costing.cost_along.Given as goal

abbrev pub invariant-loop-query : goal.invariant-loop-query
invariant-loop-query l =
    (l.number ≡ l.query-index)
    × (l.cost + plan_cost l.s (entry_in l.c) l.number (drop l.query-index l.t.queries) l.rest ≡ plan_cost l.s (entry_in l.c) 0 l.t.queries l.plan.entries)
    × (l.cost ≤ l.query-index * 2 ^ 59)
    × HavePieces (drop l.query-index l.t.queries) l.rest
