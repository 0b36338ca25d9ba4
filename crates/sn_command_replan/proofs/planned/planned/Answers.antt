use Rattle.std.proofs.Common.{◌≡◌, ◌≤◌, length, Ok, Err, ap, sym, subst, ◌∙◌}
use Rattle.sn_cost_training.specs.Trained.{Training, none, with_window}
use Rattle.sn_command_replan.proofs.PlannedLemmas.{few_numbers, planned_is}
use Rattle.sn_command_search.specs.Certificates.{SearchedIn}
use Rattle.sn_cost.specs.Entries.{trained}
use Rattle.sn_windows.specs.Blocks.{most_records}
use Rattle.sn_command_replan.proofs.planned.planned.Goals as goal

pub search-requires-clause-few : goal.search-requires-clause-few
search-requires-clause-few c =
    let training_is : c.add.new.self ≡ with_window none c.args.number c.args.tuples = c.in_ok-add.ensures.ok ∙ ap (λ (t : Training). with_window t c.args.number c.args.tuples) c.new-training.ensures in
    subst (λ (t : Training). length t.numbers ≤ most_records) (sym training_is) (few_numbers c.args.number c.args.tuples c.requires.few)

pub returns-in-Ok-clause-verdict : goal.returns-in-Ok-clause-verdict
returns-in-Ok-clause-verdict c =
    let s = c.args.limits.now in
    let queries = c.args.typed.now.queries in
    let training_is : c.add.new.self ≡ with_window none c.args.number c.args.tuples = c.in_ok-add.ensures.ok ∙ ap (λ (t : Training). with_window t c.args.number c.args.tuples) c.new-training.ensures in
    planned_is s queries c.args.nodes c.args.number c.args.tuples c.requires.some (Ok c.in-Ok.certificate)
    (subst (λ (t : Training). SearchedIn s queries (trained t.numbers t.tuples) c.args.nodes (Ok c.in-Ok.certificate)) training_is c.in-Ok.ensures.searched)

pub returns-in-Err-Refused-clause-verdict : goal.returns-in-Err-Refused-clause-verdict
returns-in-Err-Refused-clause-verdict c =
    let s = c.args.limits.now in
    let queries = c.args.typed.now.queries in
    let training_is : c.add.new.self ≡ with_window none c.args.number c.args.tuples = c.in_ok-add.ensures.ok ∙ ap (λ (t : Training). with_window t c.args.number c.args.tuples) c.new-training.ensures in
    planned_is s queries c.args.nodes c.args.number c.args.tuples c.requires.some (Err c.in-Err-Refused.fault)
    (subst (λ (t : Training). SearchedIn s queries (trained t.numbers t.tuples) c.args.nodes (Err c.in-Err-Refused.fault)) training_is (rw c.in-Err-Refused.field-0-is at c.in-Err-Refused.ensures).searched)
