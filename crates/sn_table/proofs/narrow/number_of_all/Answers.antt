use Rattle.std.proofs.Common.{◌≡◌, length, Bool, false, Some, None, cond, ap, sym, subst, ◌∙◌}
use Rattle.sn_table.specs.Narrow.{is_narrow, number_of}
use Rattle.sn_table.proofs.Digits.{packs_more, too_wide}
use Rattle.sn_table.proofs.narrow.number_of_all.Goals as goal

pub loop-place-preserved : goal.loop-place-preserved
loop-place-preserved g c =
    let held = g.R.Columns.columns c.args.key.now in
    packs_more c.len-columns.result c.loop-place.place c.width_of-width.result c.loop-place.number c.whole-column.result held
    (sym c.len-columns.ensures.value) c.len-columns.ensures.most c.width_of-width.ensures.value c.loop-place-test.true
    (c.whole-column.ensures.value ∙ c.column.ensures) c.if-column-width-ne0.false c.loop-place.invariant

pub returns-then-column-width-ne0 : goal.returns-then-column-width-ne0
returns-then-column-width-ne0 g c =
    let held = g.R.Columns.columns c.args.key.now in
    let wide = too_wide c.len-columns.result c.loop-place.place c.width_of-width.result c.whole-column.result held
    (sym c.len-columns.ensures.value) c.width_of-width.ensures.value c.loop-place-test.true (c.whole-column.ensures.value ∙ c.column.ensures) c.if-column-width-ne0.true in
    sym (ap (λ (b : Bool). cond b (Some (number_of (length held) held)) None) (subst (λ n. is_narrow n held ≡ false) c.len-columns.ensures.value wide))
