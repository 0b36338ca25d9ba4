use Rattle.std.proofs.Common.{arith}
use Rattle.sn_plan_choices.proofs.OptionLists.{cut_counts, ways_at}
use Rattle.sn_plan_choices.proofs.setting.branch_options.Goals as goal

pub loop-cut-preserved : goal.loop-cut-preserved
loop-cut-preserved c =
    let at =
    ways_at c.args.s.now c.args.branch.now c.loop-cut.cut c.as_slice.result.now c.prefix.result.now c.stateful.result c.ways-count.result c.as_slice.ensures c.prefix.ensures.value c.stateful.ensures
    c.ways-count.ensures.value in
    let more = cut_counts c.args.s.now c.args.branch.now c.loop-cut.cut c.loop-cut-test.true in
    record { value = omega (arith, at, more, c.loop-cut.invariant.value); most = omega (arith, c.ways-count.ensures.most, c.loop-cut.invariant.most) }
