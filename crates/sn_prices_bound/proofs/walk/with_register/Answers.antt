use Rattle.std.proofs.Common.{◌-◌, refl, sym, ◌∙◌, arith}
use Rattle.std.proofs.Math.ListN.{length-set}
use Rattle.std.proofs.lemmas.List.{get_or-replicate}
use Rattle.sn_prices.specs.Limits.{forbidden}
use Rattle.sn_prices_bound.proofs.Walks.{register_past, register_more}
use Rattle.sn_prices_bound.proofs.walk.with_register.Goals as goal

pub loop-stage-init : goal.loop-stage-init
loop-stage-init c = record {
  count = refl;
  each = λ slots is k h l. get_or-replicate 33 k forbidden 0 (omega arith) ∙ sym (register_past c.args.s.now c.args.p.now k c.args.bits slots h);
}

pub loop-stage-preserved : goal.loop-stage-preserved
loop-stage-preserved c = record {
  count = length-set c.loop-stage.walk (c.loop-stage.stage - 1) c.min.result ∙ c.loop-stage.invariant.count;
  each = λ slots is.
      register_more c.args.s.now c.args.p.now c.args.bits slots c.args.after.now c.loop-stage.walk c.loop-stage.stage c.register_price.result c.saturating_add-here.result c.min.result
      c.requires.switch.stages (omega arith) (omega arith) is c.register_price.ensures.value c.register_price.ensures.most c.saturating_add-here.ensures c.min.ensures
      c.loop-stage.invariant.count (c.loop-stage.invariant.each slots is);
}
