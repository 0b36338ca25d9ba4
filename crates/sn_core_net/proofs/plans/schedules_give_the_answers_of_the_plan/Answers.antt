use Rattle.sn_core_net.proofs.PlanSchedules.{plan_schedules}
use Rattle.sn_core_net.proofs.plans.schedules_give_the_answers_of_the_plan.Goals as goal

pub returns : goal.returns
returns c = plan_schedules
