use Rattle.sn_text.proofs.Standing.{stand}
use Rattle.sn_text.proofs.token_laws.tokens_stand_in_their_text.Goals as goal

pub returns : goal.returns
returns c = stand
