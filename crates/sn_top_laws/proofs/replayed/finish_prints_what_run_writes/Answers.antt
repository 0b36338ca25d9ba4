use Rattle.sn_top_laws.proofs.ReplayLemmas.{finish_follows}
use Rattle.sn_top_laws.proofs.replayed.finish_prints_what_run_writes.Goals as goal

pub returns : goal.returns
returns c = finish_follows
