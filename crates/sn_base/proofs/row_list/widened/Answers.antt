use Rattle.std.proofs.Common.{◌++◌, ◌∷◌, [], ap₂, sym, ◌∙◌}
use Rattle.sn_base.proofs.Lists.{take_one}
use Rattle.sn_base.proofs.row_list.widened.Goals as goal

pub loop-place-preserved : goal.loop-place-preserved
loop-place-preserved c =
    c.in_ok-push.ensures.ok
    ∙ ap₂ (λ rows row. rows ++ row ∷ []) c.loop-place.invariant c.of_short.ensures
    ∙ sym (take_one c.args.rows.now c.loop-place.place c.at.result.now c.at.ensures)
