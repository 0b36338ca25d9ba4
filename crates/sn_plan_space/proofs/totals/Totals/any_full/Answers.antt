use Rattle.std.proofs.Common.{sym, ◌∙◌}
use Rattle.sn_plan_space.specs.Totals.{any_full}
use Rattle.sn_plan_space.proofs.Sums.{full_here, full_after}
use Rattle.sn_plan_space.proofs.totals.Totals.any_full.Goals as goal

pub returns-then-is_full : goal.returns-then-is_full
returns-then-is_full c = λ taken are.
    full_here c.args.s.now taken c.loop-stage.stage (any_full c.args.s.now taken) c.loop-stage-test.true (sym (c.is_full.ensures taken are) ∙ c.if-is_full.true) (c.loop-stage.invariant taken are)

pub loop-stage-preserved : goal.loop-stage-preserved
loop-stage-preserved c = λ taken are.
    full_after c.args.s.now taken c.loop-stage.stage (any_full c.args.s.now taken) c.loop-stage-test.true (sym (c.is_full.ensures taken are) ∙ c.if-is_full.false) (c.loop-stage.invariant taken are)
