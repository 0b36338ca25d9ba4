use Rattle.std.proofs.Common.{◌≡◌, map}
use Rattle.sn_base.specs.Operators.{through}
use Rattle.sn_base.specs.RowLists.{rows_in}
use Rattle.sn_base.specs.declared.row_list.RowList.{RowList}
use Rattle.sn_ops.proofs.Steps.{ok_weaker}
use Rattle.sn_ops.specs.Joins.{joined}
use Rattle.sn_types.specs.Typed.{final_columns, query_at}
use Rattle.sn_types.specs.Values.{op_at}
use Rattle.sn_types.proofs.RowsAfter.{AreOf}
use Rattle.sn_ops_stream.specs.Streams.{QueryGivesRows}
use Rattle.sn_ops_stream.proofs.QueryLemmas.{both_ok, joined_given, one_given, second_taken}
use Rattle.sn_ops_stream.proofs.query.QueryStream.finish.Goals as goal

pub join_lists-requires-clause-left : goal.join_lists-requires-clause-left
join_lists-requires-clause-left c =
    let given = c.requires in
    (c.in_ok-first.ensures c.args.t.now.queries c.args.self.q 0 c.args.self.level given.0 given.1.0).1

pub join_lists-requires-clause-right : goal.join_lists-requires-clause-right
join_lists-requires-clause-right c =
    let given = c.requires in
    let queries = c.args.t.now.queries in
    let s = c.args.self in
    (c.in_ok-second-in-Some.ensures queries s.q 1 s.level given.0 (second_taken queries s.q s.level given.0 s.second c.in-Some.second c.in-Some.is given.1.1).1).1

pub returns-in_ok-second-in-Some : goal.returns-in_ok-second-in-Some
returns-in_ok-second-in-Some c =
    let queries = c.args.t.now.queries in
    let s = c.args.self in
    let query = query_at queries s.q in
    let left = rows_in c.in_ok-first.first in
    let right = rows_in c.in_ok-second-in-Some.second in
    let Rows : RowList → Type 0 = λ list. rows_in list ≡ through (map (op_at s.level) query.posts) (joined query.keys left right) in
    let Columns : RowList → Type 0 = λ list. AreOf (final_columns query) (rows_in list) in
    ok_weaker (λ list. Rows list × Columns list) (λ list. QueryGivesRows queries s (rows_in list))
    (λ list h. joined_given queries s c.in-Some.second left right (rows_in list) c.in-Some.is c.in_ok-first.ensures c.in_ok-second-in-Some.ensures h.0 h.1)
    c.join_lists.result (both_ok Rows Columns c.join_lists.result c.join_lists.ensures.rows c.join_lists.ensures.columns)

pub returns-in-None : goal.returns-in-None
returns-in-None c = one_given c.args.t.now.window_us c.args.t.now.queries c.args.self (rows_in c.in_ok-first.first) c.args.t.now.typed c.in-None.is c.in_ok-first.ensures
