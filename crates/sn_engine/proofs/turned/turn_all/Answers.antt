use Rattle.std.proofs.Common.{set, Some, ap, sym, ◌∙◌}
use Rattle.std.proofs.lemmas.List.Edits.{map_over_more}
use Rattle.sn_engine.specs.Turns.{turn}
use Rattle.sn_engine.proofs.turned.turn_all.Goals as goal

pub loop-item-preserved : goal.loop-item-preserved
loop-item-preserved g c =
    let items = c.loop-item.items in
    let i = c.loop-item.item-index in
    let held = c.args.held in
    ap (λ y. set items i y) (c.turn.ensures ∙ ap (turn (Some held)) (sym c.item-item.is))
    ∙ map_over_more (turn (Some held)) c.args.items.now items i c.item-item.result c.loop-item-test.true c.loop-item.invariant c.item-item.is
