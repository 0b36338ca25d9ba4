use Rattle.std.proofs.Common.{ap, ◌∙◌}
use Rattle.sn_query_grammar.specs.Grammar.{file_rule}
use Rattle.sn_query_print.specs.Printing.{puts}
use Rattle.sn_query_print.proofs.Again.{stands_again}
use Rattle.sn_query_print.proofs.print.print.Goals as goal

pub returns-clause-again : goal.returns-clause-again
returns-clause-again c = stands_again c.args.file.now c.requires c.from_vec.result
    (c.from_vec.ensures ∙ c.into_text.ensures ∙ ap (λ s. s.text) c.in_ok-put_file.ensures ∙ ap (λ s. (puts s (file_rule.spell c.args.file.now)).text) c.new-out.ensures)
