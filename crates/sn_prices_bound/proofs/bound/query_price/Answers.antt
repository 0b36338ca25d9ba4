use Rattle.std.proofs.Common.{◌≡◌, ◌^◌, ap, ◌∙◌, arith}
use Rattle.std.specs.List.{sum_by}
use Rattle.sn_plan_choices.specs.Options.{paths}
use Rattle.sn_plan_choices.specs.Planning.{pieces_of}
use Rattle.sn_plan_choices.specs.Within.{least_below}
use Rattle.sn_plan_space.specs.declared.known.KnownQuery.{KnownQuery}
use Rattle.sn_plan_space.specs.Known.{known_path}
use Rattle.sn_prices.specs.Least.{least_piece}
use Rattle.sn_prices_bound.proofs.Sums.{ranged, ranged_count}
use Rattle.sn_prices_bound.proofs.bound.query_price.Goals as goal

pub loop-m-preserved : goal.loop-m-preserved
loop-m-preserved c = record {
  value = λ entry t e.
      c.lesser-least.ensures.value (λ m. sum_by (least_piece c.args.s.now entry c.args.p.now) (pieces_of t m)) (c.loop-m.invariant.value entry t e)
      (c.path_price.ensures.value entry (pieces_of t c.loop-m.m)
      (c.as_slice.ensures ∙ ranged (known_path c.args.s.now entry t) c.as_slice-paths.result.now (paths t.typed.levels) c.loop-m.m c.index-paths-m.result
      (c.as_slice-paths.ensures ∙ ap (λ (q : KnownQuery). q.paths) e) c.loop-m-test.true c.index-paths-m.is));
  most = c.lesser-least.ensures.most (2 ^ 112) c.loop-m.invariant.most c.path_price.ensures.most;
}

pub returns-clause-value : goal.returns-clause-value
returns-clause-value c = λ entry t e.
    let long = ranged_count (known_path c.args.s.now entry t) c.as_slice-paths.result.now (paths t.typed.levels) (c.as_slice-paths.ensures ∙ ap (λ (q : KnownQuery). q.paths) e) in
    let end = c.loop-m.auto.m-end in
    let over = c.loop-m-test.false in
    c.loop-m.invariant.value entry t e
    ∙ ap (least_below (λ m. sum_by (least_piece c.args.s.now entry c.args.p.now) (pieces_of t m))) (let same : c.loop-m.m ≡ paths t.typed.levels = omega arith in same)
