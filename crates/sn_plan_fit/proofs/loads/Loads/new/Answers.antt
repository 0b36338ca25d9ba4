use Rattle.sn_plan_fit.proofs.LoadLaws.{nothing_stands}
use Rattle.sn_plan_fit.proofs.loads.Loads.new.Goals as goal

pub returns : goal.returns
returns c = nothing_stands
