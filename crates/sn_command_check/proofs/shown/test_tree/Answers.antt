use Rattle.std.proofs.Common.{refl}
use Rattle.sn_plan_choices.specs.Costs.{entry_in}
use Rattle.sn_cost.specs.Entries.{trained}
use Rattle.sn_command_check.proofs.Judging.{answers_same, counted_of, plan_is}
use Rattle.sn_command_check.proofs.Verdicts.{tree_fine, tree_flawed}
use Rattle.sn_command_check.proofs.shown.test_tree.Goals as goal

pub check_nodes-requires-clause-plan : goal.check_nodes-requires-clause-plan
check_nodes-requires-clause-plan c = plan_is _ _ _ _ c.in_ok-planning.ensures c.as_slice.ensures (c.in_ok-choices.ensures.plan (entry_in c.in_ok-table.table))

pub returns-in-Ok : goal.returns-in-Ok
returns-in-Ok c =
    tree_fine _
    (answers_same c.args.s.now c.args.t.now.queries c.in_ok-table.table (trained c.args.training.now.numbers c.args.training.now.tuples) c.args.plan.now _ _ _ _ c.args.tree.now.0 _ c.args.tree.now.1 _
    (counted_of c.args.s.now c.args.t.now.queries c.in_ok-table.table c.args.training.now.numbers _ c.args.training.now.tuples _ refl refl c.in_ok-table.ensures.entries)
    c.in_ok-planning.ensures c.as_slice.ensures c.in_ok-choices.ensures.choices (c.in_ok-choices.ensures.plan (entry_in c.in_ok-table.table)) c.cost.ensures c.nodes-nodes.ensures.all c.in-Ok.ensures.fault)

pub returns : goal.returns
returns c =
    rw c.flaw_refusal.ensures
    (tree_flawed _ c.in-Err.fault
    (answers_same c.args.s.now c.args.t.now.queries c.in_ok-table.table (trained c.args.training.now.numbers c.args.training.now.tuples) c.args.plan.now _ _ _ _ c.args.tree.now.0 _ c.args.tree.now.1 _
    (counted_of c.args.s.now c.args.t.now.queries c.in_ok-table.table c.args.training.now.numbers _ c.args.training.now.tuples _ refl refl c.in_ok-table.ensures.entries)
    c.in_ok-planning.ensures c.as_slice.ensures c.in_ok-choices.ensures.choices (c.in_ok-choices.ensures.plan (entry_in c.in_ok-table.table)) c.cost.ensures c.nodes-nodes.ensures.all c.in-Err.ensures.fault))
