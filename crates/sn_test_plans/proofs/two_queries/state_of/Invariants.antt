use Rattle.std.proofs.Common.{◌≡◌, take}
use Rattle.sn_tree_space.specs.Readers.{read}
use Rattle.sn_test_plans.specs.TwoQueries.{reader}
use Rattle.sn_test_plans.proofs.two_queries.state_of.Given as goal

abbrev pub invariant-loop-choice : goal.invariant-loop-choice
invariant-loop-choice l = l.state ≡ read reader (take l.choice-index l.choices)
