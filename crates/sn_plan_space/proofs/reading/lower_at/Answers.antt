use Rattle.sn_plan_space.proofs.Reaching.{lower_is}
use Rattle.sn_plan_space.proofs.reading.lower_at.Goals as goal

pub returns : goal.returns
returns c = λ s entry a h. lower_is s entry a c.args.position c.add_least-chosen.result c.add_least_queries.result h c.add_least-chosen.ensures c.add_least_queries.ensures
