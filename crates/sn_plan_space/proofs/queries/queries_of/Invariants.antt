use Rattle.std.proofs.Common.{◌≡◌, ◌++◌, map, drop}
use Rattle.sn_plan_choices.specs.Costs.{entry_in}
use Rattle.sn_plan_space.specs.Known.{known_query, numbered}
use Rattle.sn_plan_space.proofs.queries.queries_of.Given as goal

abbrev pub invariant-loop-n : goal.invariant-loop-n
invariant-loop-n l = l.known ++ map (known_query l.s (entry_in l.c)) (numbered l.n (drop l.n l.queries)) ≡ map (known_query l.s (entry_in l.c)) (numbered 0 l.queries)
