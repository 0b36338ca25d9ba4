use Rattle.std.proofs.Common.{◌≡◌, ◌^◌, ap, ◌∙◌, arith}
use Rattle.sn_plan_choices.specs.Planning.{settings}
use Rattle.sn_plan_choices.specs.Within.{least_below}
use Rattle.sn_plan_space.specs.declared.known.KnownPiece.{KnownPiece}
use Rattle.sn_plan_space.specs.Known.{known_option}
use Rattle.sn_prices.specs.Least.{option_price}
use Rattle.sn_prices_bound.proofs.Sums.{ranged, ranged_count}
use Rattle.sn_prices_bound.proofs.bound.piece_price.Goals as goal

pub loop-n-preserved : goal.loop-n-preserved
loop-n-preserved c = record {
  value = λ entry t e.
      c.lesser-least.ensures.value (option_price c.args.s.now entry c.args.p.now t) (c.loop-n.invariant.value entry t e)
      (c.option_price.ensures.value entry t c.loop-n.n
      (ranged (known_option c.args.s.now entry t) c.as_slice-options.result.now (settings c.args.s.now entry t) c.loop-n.n c.index-options-n.result
      (c.as_slice-options.ensures ∙ ap (λ (p : KnownPiece). p.options) e) c.loop-n-test.true c.index-options-n.is));
  most = c.lesser-least.ensures.most (2 ^ 109) c.loop-n.invariant.most c.option_price.ensures.most;
}

pub returns-clause-value : goal.returns-clause-value
returns-clause-value c = λ entry t e.
    let long = ranged_count (known_option c.args.s.now entry t) c.as_slice-options.result.now (settings c.args.s.now entry t) (c.as_slice-options.ensures ∙ ap (λ (p : KnownPiece). p.options) e) in
    let end = c.loop-n.auto.n-end in
    let over = c.loop-n-test.false in
    c.loop-n.invariant.value entry t e
    ∙ ap (least_below (option_price c.args.s.now entry c.args.p.now t)) (let same : c.loop-n.n ≡ settings c.args.s.now entry t = omega arith in same)
