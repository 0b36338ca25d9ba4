use Rattle.sn_core_drive.proofs.MadeLemmas.{new_plain}
use Rattle.sn_core_drive.proofs.law.machines_of_a_plan_are_made_alike.Goals as goal

pub returns : goal.returns
returns c = new_plain
