use Rattle.std.proofs.Common.{ℕ, ◌-◌, ◌^◌, min, slice_index, ap, ◌∙◌}
use Rattle.sn_types.proofs.RowsAfter.{had_below, stays_whole}
use Rattle.sn_types.proofs.evaluate.folded_at.Goals as goal

pub returns : goal.returns
returns g c =
    let x = slice_index (g.R.Columns.columns c.args.row.now) c.args.place in
    c.word.ensures ∙ ap (λ (n : ℕ). min n (2 ^ 64 - 1)) c.column.ensures ∙ stays_whole x (had_below c.args.fold x c.requires.had)
