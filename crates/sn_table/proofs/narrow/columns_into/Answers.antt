use Rattle.std.proofs.Common.{[], ◌∷◌, ◌++◌, ap, sym, ◌∙◌}
use Rattle.sn_table.specs.Narrow.{columns_of}
use Rattle.sn_table.proofs.Digits.{digit_fits, unpacks_more}
use Rattle.sn_table.proofs.ShortRows.{one_back}
use Rattle.sn_table.proofs.narrow.columns_into.Goals as goal

pub returns-then-columns-eq1 : goal.returns-then-columns-eq1
returns-then-columns-eq1 g c =
    c.push.ensures ∙ ap (λ xs. xs ++ g.R.Number.Number.value c.of_whole.result ∷ []) c.empty.ensures ∙ ap (λ n. n ∷ []) c.of_whole.ensures
    ∙ sym (ap (λ n. columns_of n c.args.number) c.if-columns-eq1.true ∙ one_back c.args.number c.ranges.number.fits)

pub of_whole-requires-in-loop-place : goal.of_whole-requires-in-loop-place
of_whole-requires-in-loop-place g c =
    digit_fits c.loop-place.rest c.width_of-width.result g.R.Number.Number.limit (c.width_of-width.ensures.most c.if-columns-eq1.false) g.met.R.Number.Number.words_fit

pub loop-place-preserved : goal.loop-place-preserved
loop-place-preserved g c =
    unpacks_more c.args.columns c.loop-place._place c.args.number c.loop-place.rest c.width_of-width.result (g.R.Columns.columns c.loop-place.row) (g.R.Columns.columns c.push-in-loop-place.new.self)
    c.width_of-width.ensures.value (c.width_of-width.ensures.most c.if-columns-eq1.false) c.loop-place-test.true c.loop-place.invariant
    (c.push-in-loop-place.ensures ∙ ap (λ n. g.R.Columns.columns c.loop-place.row ++ n ∷ []) c.of_whole-in-loop-place.ensures)
