use Rattle.std.proofs.Common.{arith, ◌∙◌}
use Rattle.sn_base.specs.RowLists.{rows_in}
use Rattle.sn_base.specs.declared.row_list.RowList.{RowList}
use Rattle.sn_types.specs.Typed.{branch_at, query_at, end_columns, final_columns}
use Rattle.sn_types.proofs.RowsAfter.{AreOf}
use Rattle.sn_ops.proofs.PacketSteps.{some_branch}
use Rattle.sn_ops.proofs.Queries.{query_one}
use Rattle.sn_ops.proofs.Steps.{ok_weaker}
use Rattle.sn_ops.proofs.lists.plain_list.Goals as goal

pub branch_list-requires-else-branches-eq2-clause-branch : goal.branch_list-requires-else-branches-eq2-clause-branch
branch_list-requires-else-branches-eq2-clause-branch c =
    let some = some_branch c.args.t.now.window_us c.args.t.now.queries c.args.q c.args.t.now.typed c.requires.query in
    omega (arith, some)

pub returns-else-branches-eq2-clause-columns : goal.returns-else-branches-eq2-clause-columns
returns-else-branches-eq2-clause-columns c =
    let t = c.args.t.now in
    let q = c.args.q in
    ok_weaker (λ (list : RowList). AreOf (end_columns (branch_at t.queries q 0)) (rows_in list)) (λ (list : RowList). AreOf (final_columns (query_at t.queries q)) (rows_in list))
    (λ list of. query_one t.window_us t.queries q (rows_in list) t.typed c.requires.query (λ e. c.if-branches-eq2.false (c.branches.ensures ∙ e)) of)
    c.branch_list-else-branches-eq2.result c.branch_list-else-branches-eq2.ensures.columns
