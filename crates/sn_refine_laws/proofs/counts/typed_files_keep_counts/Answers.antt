use Rattle.sn_refine_laws.proofs.CountLemmas.{counts}
use Rattle.sn_refine_laws.proofs.counts.typed_files_keep_counts.Goals as goal

pub returns : goal.returns
returns c = counts
