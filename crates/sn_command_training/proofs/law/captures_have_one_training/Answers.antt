use Rattle.sn_command_training.proofs.TrainingLemmas.{one_training}
use Rattle.sn_command_training.proofs.law.captures_have_one_training.Goals as goal

pub returns : goal.returns
returns c = one_training
