use Rattle.sn_plan_space.proofs.Reaching.{begins_with, steps_with}
use Rattle.sn_plan_space.proofs.reading.totals_after.Goals as goal

pub loop-choice-init : goal.loop-choice-init
loop-choice-init c = λ s entry queries e k part.
    begins_with s entry queries c.start-position.result c.new-totals.result c.args.partial.now (c.start-position.ensures s entry queries k) c.new-totals.ensures part

pub loop-choice-preserved : goal.loop-choice-preserved
loop-choice-preserved c = λ s entry queries e k part.
    steps_with s entry queries c.args.stages c.loop-choice.position c.after.result.0 c.loop-choice.totals c.add.new.self c.after.result.1 c.loop-choice.choice-index c.args.partial.now e
    c.loop-choice-test.true c.after.ensures c.add.ensures (c.loop-choice.invariant s entry queries e k part)
