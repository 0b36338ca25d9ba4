use Rattle.std.proofs.Common.{◌∷◌, ◌∙◌}
use Rattle.std.proofs.Math.ListN.{length-set}
use Rattle.sn_plan_space.specs.declared.known.Slot.TheVariants.{Plain}
use Rattle.sn_prices_bound.specs.Walks.{known_stages}
use Rattle.sn_prices_bound.proofs.Walks.{filled}
use Rattle.sn_prices_bound.proofs.walk.with_plain.Goals as goal

pub loop-stage-preserved : goal.loop-stage-preserved
loop-stage-preserved c = record {
  count = length-set c.loop-stage.walk c.loop-stage.stage c.after_stage.result ∙ c.loop-stage.invariant.count;
  each = λ slots is.
      filled (λ k. known_stages c.args.s.now c.args.p.now k (Plain ∷ slots)) c.loop-stage.walk c.loop-stage.stage c.after_stage.result c.loop-stage.invariant.count c.loop-stage-test.true
      (c.after_stage.ensures slots is) (c.loop-stage.invariant.each slots is);
}
