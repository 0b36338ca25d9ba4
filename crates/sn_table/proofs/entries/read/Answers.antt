use Rattle.std.proofs.Common.{◌≡◌, ◌<◌, ℕ, slice_get, Some, None, ap, sym, subst, ◌∙◌}
use Rattle.std.specs.Option.{option_map}
use Rattle.std.proofs.lemmas.Option.{slice_get-map}
use Rattle.sn_base.specs.Groups.{Row}
use Rattle.sn_table.specs.HeldEntries.{IsSound, entries_of, row_entry}
use Rattle.sn_table.specs.Narrow.{columns_of}
use Rattle.sn_table.proofs.Decoded.{keys}
use Rattle.sn_table.proofs.NarrowKeys.{key_at, short_at}
use Rattle.sn_table.proofs.RowKeys.{row_at}
use Rattle.sn_table.proofs.entries.read.Goals as goal

pub columns_into-requires-clause-single : goal.columns_into-requires-clause-single
columns_into-requires-clause-single g c =
    let limit = g.R.Number.Number.limit in
    let es = c.in-Narrow.numbers.entries in
    let n : ℕ = c.in_ok-number-in-Narrow.number.now in
    let at = key_at es c.args.place (n, c.in_ok-number-in-Narrow.value.now) (sym c.in_ok-number-in-Narrow.ensures.entry) in
    let short = subst (IsSound limit) c.in-Narrow.is c.requires in
    λ one. subst (λ m. m < limit) (sym c.get.ensures) ((short_at limit c.in-Narrow.columns (keys es) c.args.place n short at).single one)

pub returns-in_ok-number-in-Narrow-clause-entry : goal.returns-in_ok-number-in-Narrow-clause-entry
returns-in_ok-number-in-Narrow-clause-entry g c =
    let columns = c.in-Narrow.columns in
    let v : ℕ = c.in_ok-number-in-Narrow.value.now in
    ap (λ held. slice_get (entries_of g.R.Columns.columns held) c.args.place) c.in-Narrow.is
    ∙ slice_get-map (row_entry columns) c.in-Narrow.numbers.entries c.args.place
    ∙ ap (option_map (row_entry columns)) (sym c.in_ok-number-in-Narrow.ensures.entry)
    ∙ ap (λ (row : Row). Some (row, v)) (sym (c.columns_into.ensures ∙ ap (columns_of columns) c.get.ensures))

pub returns-in_ok-key-in-Wide-clause-entry : goal.returns-in_ok-key-in-Wide-clause-entry
returns-in_ok-key-in-Wide-clause-entry g c =
    ap (λ held. slice_get (entries_of g.R.Columns.columns held) c.args.place) c.in-Wide.is
    ∙ row_at g.R.Columns.columns c.in-Wide.rows.entries c.args.place _ (sym c.in_ok-key-in-Wide.ensures.entry)

pub returns-in_err-key-in-Wide-clause-entry : goal.returns-in_err-key-in-Wide-clause-entry
returns-in_err-key-in-Wide-clause-entry g c =
    let none : slice_get (entries_of g.R.Columns.columns c.args.held.now) c.args.place ≡ None =
    ap (λ held. slice_get (entries_of g.R.Columns.columns held) c.args.place) c.in-Wide.is
    ∙ row_at g.R.Columns.columns c.in-Wide.rows.entries c.args.place None (sym c.in_err-key-in-Wide.ensures.entry) in
    none ∙ sym (ap (option_map (λ (value : ℕ). (g.R.Columns.columns c.args.row.now, value))) c.from_residual-in_err-key-in-Wide.ensures)
