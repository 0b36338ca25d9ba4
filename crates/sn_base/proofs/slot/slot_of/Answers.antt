use Rattle.std.proofs.Common.{fold, ap, ◌<◌, subst, ◌∙◌}
use Rattle.sn_base.specs.Slot.{column_bytes, fnv_step}
use Rattle.sn_base.proofs.SlotLemmas.{hash_one_more}
use Rattle.sn_base.proofs.slot.slot_of.Goals as goal

pub loop-place-preserved : goal.loop-place-preserved
loop-place-preserved g c =
    let columns = g.R.Columns.columns c.args.key.now in
    c.mix_column-hash.ensures ∙ ap (λ hash. fold fnv_step hash (column_bytes c.whole.result)) c.loop-place.invariant
    ∙ hash_one_more c.args.index c.loop-place.place c.whole.result columns (subst (λ n. c.loop-place.place < n) c.len-place-end.ensures.value c.loop-place-test.true) (c.whole.ensures.value ∙ c.column.ensures)
