use Rattle.sn_cost_counts.proofs.Standing.{none_weighed}
use Rattle.sn_cost_counts.proofs.weighed.Weighed.new.Goals as goal

pub returns : goal.returns
returns g c = λ level ops stateless. none_weighed level ops c.new.result.seen c.new.result.passed c.new-2.result c.new-3.result.items c.new-2.ensures c.new-3.ensures.items (c.new.ensures level ops stateless)
