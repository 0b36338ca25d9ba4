use Rattle.std.proofs.Common.{◌≡◌, None, ap, sym, ◌∙◌, ◌∷◌}
use Rattle.sn_cli.specs.Reading.{command_of}
use Rattle.sn_cli.specs.Words.{texts}
use Rattle.sn_cli.proofs.GrammarLemmas.{read_is_spelled, spelled_is_read, first_word}
use Rattle.sn_cli.proofs.NumberLemmas.{none_some}
use Rattle.sn_cli.proofs.words.words.Goals as goal

pub returns-in-Some-command-clause-ok : goal.returns-in-Some-command-clause-ok
returns-in-Some-command-clause-ok c =
    let words : texts c.args.words.now ≡ c.as_str.result.now ∷ texts c.in-Some.rest.now = first_word c.in-Some.ensures.cases.0 c.as_str.ensures.value in
    read_is_spelled (texts c.args.words.now) c.in-Some-command.command (ap command_of words ∙ sym c.command.ensures ∙ c.in-Some-command.is)

pub returns-in-None-clause-usage : goal.returns-in-None-clause-usage
returns-in-None-clause-usage c = λ _ command spells.
    let words : texts c.args.words.now ≡ c.as_str.result.now ∷ texts c.in-Some.rest.now = first_word c.in-Some.ensures.cases.0 c.as_str.ensures.value in
    let read : command_of (texts c.args.words.now) ≡ None = ap command_of words ∙ sym c.command.ensures ∙ c.in-None.is in
    none_some (sym read ∙ spelled_is_read (texts c.args.words.now) command spells)
