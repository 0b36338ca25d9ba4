use Rattle.sn_plan_fit.proofs.FitLaws.{shape_decided}
use Rattle.sn_plan_fit.proofs.whole.shape.Goals as goal

pub returns-clause-shape : goal.returns-clause-shape
returns-clause-shape c = shape_decided c.shaped.result c.args.t.now.queries c.args.plan.now.entries c.shaped.ensures
