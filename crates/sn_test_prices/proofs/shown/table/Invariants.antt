use Rattle.std.proofs.Common.{length}
use Rattle.sn_plan_choices.specs.Costs.{HasPlaces}
use Rattle.sn_test_prices.proofs.shown.table.Given as goal

abbrev pub invariant-loop-count : goal.invariant-loop-count
invariant-loop-count l = HasPlaces l.table (length l.t.queries)
