use Rattle.std.proofs.Common.{◌≡◌, List, ap, sym, ◌∙◌, subst}
use Rattle.std.specs.List.{AllByRecursion}
use Rattle.sn_base.specs.Columns.{IsOf}
use Rattle.sn_base.specs.Groups.{Row}
use Rattle.sn_base.specs.RowLists.{rows_in}
use Rattle.sn_base.specs.Sorted.{sorted_rows}
use Rattle.sn_ops.proofs.Steps.{ok_weaker}
use Rattle.sn_types.proofs.SortedLemmas.{all_sorted}
use Rattle.sn_types.specs.Typed.{final_columns, query_at}
use Rattle.sn_engine_split.specs.Branches.{query_value}
use Rattle.sn_engine.proofs.query.sorted_value.Goals as goal

pub returns-clause-rows : goal.returns-clause-rows
returns-clause-rows c =
    let whole : List Row = query_value (query_at c.args.t.now.queries c.args.q) c.args.level c.args.left.now c.args.right.now in
    ok_weaker (λ (rows : List Row). rows ≡ sorted_rows (rows_in c.in_ok-list.list)) (λ (rows : List Row). rows ≡ sorted_rows whole)
    (λ rows h. h ∙ ap sorted_rows c.in_ok-list.ensures.rows) c.sorted.result c.sorted.ensures

pub returns-clause-columns : goal.returns-clause-columns
returns-clause-columns c =
    let P = IsOf (final_columns (query_at c.args.t.now.queries c.args.q)) in
    ok_weaker (λ (rows : List Row). rows ≡ sorted_rows (rows_in c.in_ok-list.list)) (AllByRecursion P)
    (λ rows h. subst (λ (found : List Row). AllByRecursion P found) (sym h) (all_sorted P (rows_in c.in_ok-list.list) c.in_ok-list.ensures.columns)) c.sorted.result c.sorted.ensures
