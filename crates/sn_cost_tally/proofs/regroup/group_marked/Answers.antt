use Rattle.std.proofs.Common.{ℕ, List, ◌∷◌, ◌++◌, [], ◌<◌, length, All, map, slice_index, ap, sym, subst, ◌∙◌}
use Rattle.std.proofs.lemmas.List.Elements.{All-from_recursion}
use Rattle.sn_base.specs.Groups.{Row, once, same_row}
use Rattle.sn_base.specs.Operators.{Grouping}
use Rattle.sn_base.proofs.OnceLemmas.{all_once}
use Rattle.sn_cost_seats.specs.Seats.{rows_at}
use Rattle.sn_cost_seats.specs.Tallies.{marked}
use Rattle.sn_cost_tally.specs.Numbered.{zipped}
use Rattle.sn_cost_tally.proofs.Counting.{keys_of, times_of}
use Rattle.sn_cost_tally.proofs.Folding.{zip_keys, zip_numbers}
use Rattle.sn_cost_tally.proofs.Grouping.{rows_grouped}
use Rattle.sn_cost_tally.proofs.Regrouping.{all_marked}
use Rattle.sn_cost_tally.proofs.regroup.group_marked.Goals as goal

pub rows_of-requires-clause-short : goal.rows_of-requires-clause-short
rows_of-requires-clause-short g c =
    let keys : List Row = marked c.args.marks.now (rows_at c.args.all.now.keys c.args.all.now.of_rows.items) in
    let found = c.in_ok-found.found in
    let ensured = c.in_ok-found.ensures in
    let P : Row → Type 0 = λ key. length key < 8 in
    subst (All P) (sym (sym (zip_keys found.tally.keys found.tally.times.items ensured.times_long) ∙ ap (map (λ (e : Row × ℕ). e.0)) ensured.times ∙ keys_of keys))
    (All-from_recursion P (once same_row keys) (all_once same_row P keys (all_marked P c.args.marks.now (rows_at c.args.all.now.keys c.args.all.now.of_rows.items) c.requires.short)))

pub returns-clause-keys : goal.returns-clause-keys
returns-clause-keys g c =
    let keys : List Row = marked c.args.marks.now (rows_at c.args.all.now.keys c.args.all.now.of_rows.items) in
    let found = c.in_ok-found.found in
    let ensured = c.in_ok-found.ensures in
    sym (zip_keys found.tally.keys found.tally.times.items ensured.times_long) ∙ ap (map (λ (e : Row × ℕ). e.0)) ensured.times ∙ keys_of keys

pub returns-clause-times : goal.returns-clause-times
returns-clause-times g c =
    let keys : List Row = marked c.args.marks.now (rows_at c.args.all.now.keys c.args.all.now.of_rows.items) in
    let found = c.in_ok-found.found in
    let ensured = c.in_ok-found.ensures in
    sym (zip_numbers found.tally.keys found.tally.times.items ensured.times_long) ∙ ap (map (λ (e : Row × ℕ). e.1)) ensured.times ∙ times_of keys c.requires.few

pub returns-clause-rows : goal.returns-clause-rows
returns-clause-rows g c =
    let a = c.args in
    let by : Grouping = record { places = []; value = a.value; by = a.fold } in
    let found = c.in_ok-found.found in
    rows_grouped by (marked a.marks.now (zipped (rows_at a.all.now.keys a.all.now.of_rows.items) (map (λ row. slice_index row a.value) a.rows.now))) (zipped found.tally.keys found.totals.items) c.in_ok-rows.rows c.in_ok-found.ensures.totals
    (c.in_ok-rows.ensures ∙ ap (λ (ns : List ℕ). map (λ (e : Row × ℕ). e.0 ++ e.1 ∷ []) (zipped found.tally.keys ns)) c.as_slice.ensures.value)
