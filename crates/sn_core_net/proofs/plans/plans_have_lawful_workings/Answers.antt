use Rattle.sn_core_net.proofs.Lawful.{lawful}
use Rattle.sn_core_net.proofs.plans.plans_have_lawful_workings.Goals as goal

pub returns : goal.returns
returns c = lawful
