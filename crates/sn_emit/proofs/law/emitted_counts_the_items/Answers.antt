use Rattle.sn_emit.proofs.CountLaw.{emitted_counts}
use Rattle.sn_emit.proofs.law.emitted_counts_the_items.Goals as goal

pub returns : goal.returns
returns c = emitted_counts
