use Rattle.std.proofs.Common.{◌≡◌, ◌++◌, drop}
use Rattle.sn_plan_lists.specs.Chosen.{plan_choices}
use Rattle.sn_plan_lists.proofs.Counts.{HavePieces}
use Rattle.sn_plan_lists.proofs.choosing.choices_along.Given as goal

abbrev pub invariant-loop-query : goal.invariant-loop-query
invariant-loop-query l =
    (l.choices ++ plan_choices l.s (drop l.query-index l.t.queries) l.rest ≡ plan_choices l.s l.t.queries l.plan.entries) × HavePieces (drop l.query-index l.t.queries) l.rest
