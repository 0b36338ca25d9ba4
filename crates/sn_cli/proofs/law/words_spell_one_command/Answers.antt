use Rattle.sn_cli.proofs.GrammarLemmas.{spells_once}
use Rattle.sn_cli.proofs.law.words_spell_one_command.Goals as goal

pub returns : goal.returns
returns c = spells_once
