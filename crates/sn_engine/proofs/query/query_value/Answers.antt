use Rattle.std.proofs.Common.{arith, ◌∙◌}
use Rattle.sn_base.specs.RowLists.{rows_in}
use Rattle.sn_base.specs.declared.row_list.RowList.{RowList}
use Rattle.sn_types.specs.Typed.{branch_at, query_at, end_columns, final_columns}
use Rattle.sn_types.proofs.RowsAfter.{AreOf}
use Rattle.sn_ops.proofs.PacketSteps.{some_branch}
use Rattle.sn_ops.proofs.Queries.{query_one}
use Rattle.sn_ops.proofs.Steps.{ok_weaker}
use Rattle.sn_engine.proofs.query.query_value.Goals as goal

pub branch_value-requires-else-branches-eq2-clause-branch : goal.branch_value-requires-else-branches-eq2-clause-branch
branch_value-requires-else-branches-eq2-clause-branch c =
    let some = some_branch c.args.t.now.window_us c.args.t.now.queries c.args.q c.args.t.now.typed c.requires.query in
    omega (arith, some)

pub returns-else-branches-eq2-clause-columns : goal.returns-else-branches-eq2-clause-columns
returns-else-branches-eq2-clause-columns c =
    ok_weaker (λ (rows : RowList). AreOf (end_columns (branch_at c.args.t.now.queries c.args.q 0)) (rows_in rows))
    (λ (rows : RowList). AreOf (final_columns (query_at c.args.t.now.queries c.args.q)) (rows_in rows))
    (λ rows of. query_one c.args.t.now.window_us c.args.t.now.queries c.args.q (rows_in rows) c.args.t.now.typed c.requires.query (λ e. c.if-branches-eq2.false (c.branches.ensures ∙ e)) of) c.branch_value-else-branches-eq2.result c.branch_value-else-branches-eq2.ensures.columns
