use Rattle.std.proofs.Common.{◌≡◌, ◌≤◌, List, map, length, ap, sym, ◌∙◌, subst}
use Rattle.sn_base.specs.Groups.{Row}
use Rattle.sn_pipe_items.specs.Value.{is_at, rows_with, value}
use Rattle.sn_ops.proofs.Steps.{ok_weaker}
use Rattle.sn_types.specs.declared.typed_op.TOp.{TOp}
use Rattle.sn_types.specs.Typed.{branch_at, end_columns}
use Rattle.sn_types.specs.Values.{op_at}
use Rattle.sn_types.proofs.Facts.{few_ops}
use Rattle.sn_types.proofs.RowsAfter.{AreOf}
use Rattle.sn_report.specs.Items.{Item, item_by}
use Rattle.sn_engine.specs.Fitting.{ItemsFit}
use Rattle.sn_engine.proofs.FitLemmas.{branch_items_fit, branch_value_of}
use Rattle.sn_engine.proofs.query.kind_value.Goals as goal

pub value-requires-clause-few : goal.value-requires-clause-few
value-requires-clause-few g c =
    let t = c.args.t.now in
    let same = c.operators.ensures in
    subst (λ (os : List TOp). length os ≤ 12) (sym same) (few_ops t.window_us t.queries c.args.q c.args.b t.typed c.requires.query c.requires.branch)

pub value-requires-clause-items : goal.value-requires-clause-items
value-requires-clause-items g c =
    let t = c.args.t.now in
    let items : List Item = map (item_by g.R.Columns.columns) c.args.items.now in
    let same = c.operators.ensures in
    subst (λ (os : List TOp). ItemsFit c.args.level 0 os items (rows_with (is_at 0) items)) (sym same)
    (branch_items_fit t.window_us t.queries c.args.q c.args.b c.args.level items t.typed c.requires.query c.requires.branch c.requires.items)

pub returns-clause-columns : goal.returns-clause-columns
returns-clause-columns g c =
    let t = c.args.t.now in
    let items : List Item = map (item_by g.R.Columns.columns) c.args.items.now in
    let level = c.args.level in
    let columns = end_columns (branch_at t.queries c.args.q c.args.b) in
    let same = c.operators.ensures in
    let out : List Row = value (map (op_at level) c.operators.result.now) items in
    let is : out ≡ value (map (op_at level) (branch_at t.queries c.args.q c.args.b).ops) items = ap (λ (os : List TOp). value (map (op_at level) os) items) same in
    ok_weaker (λ (rows : List Row). rows ≡ out) (AreOf columns)
    (λ rows h. subst (AreOf columns) (sym (h ∙ is)) (branch_value_of t.window_us t.queries c.args.q c.args.b level items t.typed c.requires.query c.requires.branch c.requires.items)) c.value.result c.value.ensures
