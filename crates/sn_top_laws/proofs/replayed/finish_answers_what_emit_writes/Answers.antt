use Rattle.sn_top_laws.proofs.AnswersLemmas.{fits_replayed}
use Rattle.sn_top_laws.proofs.replayed.finish_answers_what_emit_writes.Goals as goal

pub returns : goal.returns
returns c = fits_replayed
