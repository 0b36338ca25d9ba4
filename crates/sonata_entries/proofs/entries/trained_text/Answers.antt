use Rattle.std.proofs.Common.{◌∙◌}
use Rattle.std.proofs.lemmas.Result.{IfOk-weaker}
use Rattle.sn_cost.specs.Entries.{trained}
use Rattle.sn_plan_choices.specs.Costs.{entry_in}
use Rattle.sonata_entries.specs.Table.{counted}
use Rattle.sonata_entries.proofs.TableLemmas.{same_table}
use Rattle.sonata_entries.proofs.entries.trained_text.Goals as goal

pub returns : goal.returns
returns c =
    let s = c.args.s.now in
    let queries = c.args.t.now.queries in
    let given = trained c.args.training.now.numbers c.args.training.now.tuples in
    IfOk-weaker c.table_text.result _ _ (λ text is. is ∙ same_table s queries (entry_in c.in_ok-table.table) (counted s queries given) c.in_ok-table.ensures.entries) c.table_text.ensures
