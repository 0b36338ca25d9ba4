use Rattle.std.proofs.Common.{sym, ◌∙◌}
use Rattle.sn_plan_choices.proofs.OptionLists.{option_is, here_is, after_is}
use Rattle.sn_plan_choices.proofs.setting.branch_option.Goals as goal

pub loop-cut-init : goal.loop-cut-init
loop-cut-init c = sym (option_is c.args.s.now c.args.branch.now c.args.n)

pub returns-then-left-known-clause-value : goal.returns-then-left-known-clause-value
returns-then-left-known-clause-value c =
    c.setting_at.ensures.value
    ∙ here_is c.args.s.now c.args.branch.now c.loop-cut.cut c.args.n c.loop-cut.left c.as_slice-sizes.result.now c.prefix.result.now c.stateful-count.result c.ways-known.result
    c.loop-cut-test.true c.as_slice-sizes.ensures c.prefix.ensures.value c.stateful-count.ensures c.ways-known.ensures.value c.if-left-known.true c.loop-cut.invariant

pub loop-cut-preserved : goal.loop-cut-preserved
loop-cut-preserved c =
    after_is c.args.s.now c.args.branch.now c.loop-cut.cut c.args.n c.loop-cut.left c.as_slice-sizes.result.now c.prefix.result.now c.stateful-count.result c.ways-known.result
    c.loop-cut-test.true c.as_slice-sizes.ensures c.prefix.ensures.value c.stateful-count.ensures c.ways-known.ensures.value c.if-left-known.false c.loop-cut.invariant
