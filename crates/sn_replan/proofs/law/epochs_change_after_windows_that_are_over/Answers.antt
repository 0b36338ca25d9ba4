use Rattle.sn_replan.proofs.Parting.{are_epochs}
use Rattle.sn_replan.proofs.law.epochs_change_after_windows_that_are_over.Goals as goal

pub returns : goal.returns
returns g c = are_epochs
