use Rattle.std.proofs.Common.{ℕ, ◌≤◌, length, ap, sym, subst, ◌∙◌}
use Rattle.sn_cost_training.specs.Trained.{Training, with_window}
use Rattle.sn_windows.specs.Blocks.{most_records}
use Rattle.sn_command_training.proofs.CollectLemmas.{few_numbers}
use Rattle.sn_command_training.proofs.collected.Collected.finish.Goals as goal

pub returns-clause-few : goal.returns-clause-few
returns-clause-few c =
    let is = c.requires.2 in
    subst (λ (t : Training). length t.numbers ≤ most_records) (sym (c.in_ok-add.ensures.ok ∙ ap (λ (n : ℕ). with_window c.args.self.over n c.args.self.tuples) c.number.ensures ∙ is.all))
    (few_numbers c.requires.0 c.requires.1 is.few)
