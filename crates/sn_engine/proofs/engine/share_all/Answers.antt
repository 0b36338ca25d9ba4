use Rattle.std.proofs.Common.{set, ap, sym, ◌∙◌}
use Rattle.std.proofs.lemmas.List.Edits.{map_over_more}
use Rattle.sn_engine.specs.Intakes.{shared}
use Rattle.sn_engine.specs.declared.intake.Intake.{Intake}
use Rattle.sn_engine.proofs.engine.share_all.Goals as goal

pub loop-x-preserved : goal.loop-x-preserved
loop-x-preserved c =
    let lanes = c.loop-x.lanes in
    let i = c.loop-x.x-index in
    ap (λ (y : Intake). set lanes i y) (c.share.ensures ∙ ap shared (sym c.x-item.is))
    ∙ map_over_more shared c.args.lanes.now lanes i c.x-item.result c.loop-x-test.true c.loop-x.invariant c.x-item.is
