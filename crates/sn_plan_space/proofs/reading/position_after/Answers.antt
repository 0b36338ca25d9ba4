use Rattle.sn_plan_space.proofs.Reaching.{begins}
use Rattle.sn_plan_space.proofs.reading.position_after.Goals as goal

pub loop-choice-init : goal.loop-choice-init
loop-choice-init c = λ s entry queries e k part. begins s entry queries c.start-position.result c.args.partial.now (c.start-position.ensures s entry queries k) part
