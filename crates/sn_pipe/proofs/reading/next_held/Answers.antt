use Rattle.std.proofs.Common.{◌∷◌, refl, ap, ◌∙◌}
use Rattle.std.specs.Option.{option_map}
use Rattle.sn_report.specs.Items.{item_by}
use Rattle.sn_pipe.specs.declared.stage.Stage.TheVariants.{Reduce}
use Rattle.sn_pipe.specs.Windows.{item_up}
use Rattle.sn_pipe.proofs.ReadOuts.{reduce_after, reduce_first}
use Rattle.sn_pipe.proofs.reading.next_held.Goals as goal

pub returns-clause-item : goal.returns-clause-item
returns-clause-item g c =
    let a = c.args in
    let columns = g.R.Columns.columns in
    let row = option_map columns c.first_up-row.result.0 in
    reduce_first a.level a.first a.spilled a.place (Reduce a.r.now a.chain.now ∷ a.following.now) a.r.now a.chain.now a.following.now row
    (option_map (item_by columns) c.with_tag.result) refl c.first_up-row.ensures.row
    (c.with_tag.ensures.item ∙ ap (λ tag. option_map (item_up tag) row) c.tag_up.ensures.tag)

pub returns-clause-left : goal.returns-clause-left
returns-clause-left g c =
    let a = c.args in
    reduce_after a.level a.first a.spilled a.place c.first_up-row.result.1 (Reduce a.r.now a.chain.now ∷ a.following.now) a.r.now a.chain.now a.following.now refl c.first_up-row.ensures.left

pub returns-clause-operator : goal.returns-clause-operator
returns-clause-operator g c = c.with_tag.ensures.operator c.tag_up.ensures.operator
