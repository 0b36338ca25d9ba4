use Rattle.sn_top_laws.proofs.CallLemmas.{calls_follow}
use Rattle.sn_top_laws.proofs.replayed.finish_calls_print_what_run_calls_write.Goals as goal

pub returns : goal.returns
returns c = calls_follow
