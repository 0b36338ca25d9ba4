use Rattle.std.proofs.Common.{◌≡◌, List, map, ap, sym, ◌∙◌, subst}
use Rattle.std.specs.List.{AllByRecursion}
use Rattle.sn_base.specs.Groups.{Row}
use Rattle.sn_engine_split.specs.Branches.{IsItemOf, branch_value}
use Rattle.sn_report.specs.Items.{Item, item_by}
use Rattle.sn_types.specs.Typed.{branch_at, query_at}
use Rattle.sn_engine.specs.AnyItems.{items_in}
use Rattle.sn_engine.proofs.OfKinds.{same_items}
use Rattle.sn_engine.proofs.query.branch_value.Goals as goal

pub kind_value-requires-clause-items : goal.kind_value-requires-clause-items
kind_value-requires-clause-items c =
    let same : map (item_by (λ (row : Row). row)) c.as_slice.result.now ≡ c.args.items.now =
    same_items c.as_slice.result.now ∙ c.as_slice.ensures.value ∙ ap items_in (sym c.in-Short.is) ∙ c.kind.ensures in
    subst (λ (items : List Item). AllByRecursion (IsItemOf (branch_at c.args.t.now.queries c.args.q c.args.b)) items) (sym same) c.requires.items

pub returns-in_ok-rows-in-Short-clause-rows : goal.returns-in_ok-rows-in-Short-clause-rows
returns-in_ok-rows-in-Short-clause-rows c =
    let same : map (item_by (λ (row : Row). row)) c.as_slice.result.now ≡ c.args.items.now =
    same_items c.as_slice.result.now ∙ c.as_slice.ensures.value ∙ ap items_in (sym c.in-Short.is) ∙ c.kind.ensures in
    c.in_ok-rows-in-Short.ensures.rows ∙ ap (branch_value (query_at c.args.t.now.queries c.args.q) c.args.b c.args.level) same

pub kind_value-requires-in-Wide-clause-items : goal.kind_value-requires-in-Wide-clause-items
kind_value-requires-in-Wide-clause-items c =
    let same : map (item_by (λ (row : Row). row)) c.as_slice-in-Wide.result.now ≡ c.args.items.now =
    same_items c.as_slice-in-Wide.result.now ∙ c.as_slice-in-Wide.ensures.value ∙ ap items_in (sym c.in-Wide.is) ∙ c.kind.ensures in
    subst (λ (items : List Item). AllByRecursion (IsItemOf (branch_at c.args.t.now.queries c.args.q c.args.b)) items) (sym same) c.requires.items

pub returns-in_ok-rows-in-Wide-clause-rows : goal.returns-in_ok-rows-in-Wide-clause-rows
returns-in_ok-rows-in-Wide-clause-rows c =
    let same : map (item_by (λ (row : Row). row)) c.as_slice-in-Wide.result.now ≡ c.args.items.now =
    same_items c.as_slice-in-Wide.result.now ∙ c.as_slice-in-Wide.ensures.value ∙ ap items_in (sym c.in-Wide.is) ∙ c.kind.ensures in
    c.in_ok-rows-in-Wide.ensures.rows ∙ ap (branch_value (query_at c.args.t.now.queries c.args.q) c.args.b c.args.level) same
