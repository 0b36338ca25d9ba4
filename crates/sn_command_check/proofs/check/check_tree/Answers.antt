use Rattle.std.proofs.Common.{ℕ, List}
use Rattle.std.proofs.lemmas.Result.{err_from_is_err_and}
use Rattle.sn_cost.specs.Entries.{trained}
use Rattle.sn_tree_space.specs.declared.node.Node.{Node}
use Rattle.sn_command.proofs.StageLemmas.{named_may, runs_judges, stage_stops, stage_then}
use Rattle.sn_command_check.specs.PlanTrees.{TreeAfter}
use Rattle.sn_command_check.specs.Shown.{ShownFor}
use Rattle.sn_command_check.proofs.Steps.{of_line}
use Rattle.sn_command_check.proofs.Verdicts.{shown_may, shown_once, tree_may, tree_once}
use Rattle.sn_command_check.proofs.check.check_tree.Goals as goal

pub returns-in_err-tree : goal.returns-in_err-tree
returns-in_err-tree g c =
    let p = err_from_is_err_and c.from_residual.result c.from_residual.ensures.1 in
    rw (p.1, p.2) (stage_stops (runs_judges (TreeAfter c.args.text.now c.args.byte) (tree_once c.args.text.now c.args.byte) _ (named_may 0 (tree_may (ℕ × List Node))) _ c.in_err-tree.ensures))

pub returns-in_err-test_tree : goal.returns-in_err-test_tree
returns-in_err-test_tree g c =
    let p = err_from_is_err_and c.from_residual-in_err-test_tree.result c.from_residual-in_err-test_tree.ensures.1 in
    let given = trained c.args.training.now.numbers c.args.training.now.tuples in
    rw (p.1, p.2) (stage_then (runs_judges (TreeAfter c.args.text.now c.args.byte) (tree_once c.args.text.now c.args.byte) _ (named_may 0 (tree_may (ℕ × List Node))) _ c.in_ok-tree.ensures)
    (stage_stops (runs_judges (ShownFor c.args.limits.now c.args.typed.now.queries given c.args.plan.now c.in_ok-tree.tree.0 c.in_ok-tree.tree.1)
    (shown_once c.args.limits.now c.args.typed.now.queries given c.args.plan.now c.in_ok-tree.tree.0 c.in_ok-tree.tree.1) _ (shown_may c.args.limits.now c.args.typed.now.queries given c.args.plan.now c.in_ok-tree.tree.0 c.in_ok-tree.tree.1) _ c.in_err-test_tree.ensures)))

pub returns : goal.returns
returns g c =
    let given = trained c.args.training.now.numbers c.args.training.now.tuples in
    stage_then (runs_judges (TreeAfter c.args.text.now c.args.byte) (tree_once c.args.text.now c.args.byte) _ (named_may 0 (tree_may (ℕ × List Node))) _ c.in_ok-tree.ensures)
    (stage_then (runs_judges (ShownFor c.args.limits.now c.args.typed.now.queries given c.args.plan.now c.in_ok-tree.tree.0 c.in_ok-tree.tree.1)
    (shown_once c.args.limits.now c.args.typed.now.queries given c.args.plan.now c.in_ok-tree.tree.0 c.in_ok-tree.tree.1) _ (shown_may c.args.limits.now c.args.typed.now.queries given c.args.plan.now c.in_ok-tree.tree.0 c.in_ok-tree.tree.1) _ c.in_ok-test_tree.ensures) (of_line c.cost.ensures c.count.ensures c.say_yes.ensures))
