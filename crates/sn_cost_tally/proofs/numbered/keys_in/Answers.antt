use Rattle.std.proofs.Common.{List, ◌∷◌, ◌++◌, [], cond, Some, None, ap, sym, ◌∙◌}
use Rattle.sn_base.specs.Groups.{Row}
use Rattle.sn_base.proofs.Lists.{take_one}
use Rattle.sn_cost_tally.proofs.Renumbering.{none_missing}
use Rattle.sn_cost_tally.proofs.numbered.keys_in.Goals as goal
use Rattle.sn_cost_tally.proofs.numbered.keys_in.Goals.{then-get_into+in_ok-push, else-get_into}

pub loop-number-preserved : goal.loop-number-preserved
loop-number-preserved g c =
    let held : List Row = c.args.numbers.now.keys in
    let i = c.loop-number.number in
    let row : Row = g.R.Columns.columns c.get_into.new.row in
    elim c.if-get_into.branch [
      | then-get_into+in_ok-push w ↦
          (w.keys-is ∙ w.in_ok-push.ensures.ok ∙ ap (λ rows. rows ++ row ∷ []) c.loop-number.invariant
          ∙ sym (take_one held i row (c.get_into.ensures.row ∙ ap (λ b. cond b (Some row) None) w.if-get_into.true)))
      | else-get_into w ↦ absurd (none_missing held i c.len-count.result c.get_into.result row c.loop-number-test.true c.len-count.ensures.value w.if-get_into.false c.get_into.ensures.row)
    ]
