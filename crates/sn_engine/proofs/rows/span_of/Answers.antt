use Rattle.std.proofs.Common.{◌<◌, ◌≤◌, List, map, length, subst, arith}
use Rattle.std.proofs.lemmas.List.{length-map, take_all}
use Rattle.sn_ops.proofs.Steps.{mapped_at}
use Rattle.sn_report.specs.Items.{Item, item_by}
use Rattle.sn_engine.specs.Spans.{Covers}
use Rattle.sn_engine.proofs.SpanLemmas.{covers_more}
use Rattle.sn_engine.proofs.rows.span_of.Goals as goal

pub loop-item-preserved : goal.loop-item-preserved
loop-item-preserved g c =
    let by = item_by g.R.Columns.columns in
    let items : List Item = map by c.args.items.now in
    let i = c.loop-item.item-index in
    let within : i < length items = omega (arith, c.loop-item-test.true, length-map c.args.items.now by) in
    covers_more c.loop-item.span c.widened-span.result items i (by c.item-item.result) within
    (mapped_at by c.args.items.now i c.item-item.result c.item-item.is) c.loop-item.invariant c.widened-span.ensures

pub returns : goal.returns
returns g c =
    let by = item_by g.R.Columns.columns in
    let items : List Item = map by c.args.items.now in
    let i = c.loop-item.item-index in
    let all : length items ≤ i = omega (arith, c.loop-item-test.false, length-map c.args.items.now by) in
    subst (λ (xs : List Item). Covers c.loop-item.span xs) (take_all i items all) c.loop-item.invariant
