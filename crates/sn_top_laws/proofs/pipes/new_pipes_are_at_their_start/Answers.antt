use Rattle.sn_top_laws.proofs.StartLemmas.{start_of_new}
use Rattle.sn_top_laws.proofs.pipes.new_pipes_are_at_their_start.Goals as goal

pub returns : goal.returns
returns c = start_of_new
