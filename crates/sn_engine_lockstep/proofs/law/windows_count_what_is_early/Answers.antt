use Rattle.sn_engine_lockstep.proofs.Earlies.{all_early_windows}
use Rattle.sn_engine_lockstep.proofs.law.windows_count_what_is_early.Goals as goal

pub returns : goal.returns
returns c = all_early_windows
