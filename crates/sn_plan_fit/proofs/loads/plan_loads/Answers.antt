use Rattle.sn_plan_fit.proofs.loads.plan_loads.Goals as goal

pub returns : goal.returns
returns c = c.add_plan.ensures _ c.new-loads.ensures
