use Rattle.std.proofs.Common.{◌≡◌, ◌++◌, drop}
use Rattle.sn_plan_lists.specs.Chosen.{plan_at}
use Rattle.sn_plan_lists.proofs.naming.entries_at.Given as goal

abbrev pub invariant-loop-query : goal.invariant-loop-query
invariant-loop-query l = l.entries ++ plan_at l.s (drop l.query-index l.t.queries) l.rest ≡ plan_at l.s l.t.queries l.choices
