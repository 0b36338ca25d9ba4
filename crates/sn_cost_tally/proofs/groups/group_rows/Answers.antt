use Rattle.std.proofs.Common.{ℕ, List, ◌∷◌, ◌++◌, [], map, ap, sym, ◌∙◌, arith}
use Rattle.std.specs.Option.{option_copied}
use Rattle.std.proofs.lemmas.List.{length-map}
use Rattle.sn_base.specs.Groups.{Row, columns_at, keyed}
use Rattle.sn_base.specs.Operators.{Grouping}
use Rattle.sn_cost_tally.specs.Numbered.{zipped}
use Rattle.sn_cost_tally.specs.Weighed.{weighed}
use Rattle.sn_cost_tally.proofs.Counting.{keys_of, times_of}
use Rattle.sn_cost_tally.proofs.Folding.{zip_keys, zip_numbers}
use Rattle.sn_cost_tally.proofs.Grouping.{keys_short, rows_grouped}
use Rattle.sn_cost_tally.proofs.groups.group_rows.Goals as goal

pub rows_of-requires-clause-short : goal.rows_of-requires-clause-short
rows_of-requires-clause-short g c =
    let a = c.args in
    let found = c.in_ok-found.found in
    let ensured = c.in_ok-found.ensures in
    keys_short a.places.now (weighed a.rows.now (option_copied a.weights)) found.tally.keys c.requires.short
    (sym (zip_keys found.tally.keys found.tally.times.items ensured.times_long) ∙ ap (map (λ (e : Row × ℕ). e.0)) ensured.times ∙ keys_of (map (columns_at a.places.now) (weighed a.rows.now (option_copied a.weights))))

pub returns-clause-keys : goal.returns-clause-keys
returns-clause-keys g c =
    let a = c.args in
    let found = c.in_ok-found.found in
    let ensured = c.in_ok-found.ensures in
    sym (zip_keys found.tally.keys found.tally.times.items ensured.times_long) ∙ ap (map (λ (e : Row × ℕ). e.0)) ensured.times ∙ keys_of (map (columns_at a.places.now) (weighed a.rows.now (option_copied a.weights)))

pub returns-clause-times : goal.returns-clause-times
returns-clause-times g c =
    let a = c.args in
    let found = c.in_ok-found.found in
    let ensured = c.in_ok-found.ensures in
    sym (zip_numbers found.tally.keys found.tally.times.items ensured.times_long) ∙ ap (map (λ (e : Row × ℕ). e.1)) ensured.times
    ∙ times_of (map (columns_at a.places.now) (weighed a.rows.now (option_copied a.weights))) (omega (arith, c.requires.few, length-map (weighed a.rows.now (option_copied a.weights)) (columns_at a.places.now)))

pub returns-clause-rows : goal.returns-clause-rows
returns-clause-rows g c =
    let a = c.args in
    let by : Grouping = record { places = a.places.now; value = a.value; by = a.fold } in
    let found = c.in_ok-found.found in
    rows_grouped by (map (keyed a.places.now a.value) (weighed a.rows.now (option_copied a.weights))) (zipped found.tally.keys found.totals.items) c.in_ok-rows.rows c.in_ok-found.ensures.totals
    (c.in_ok-rows.ensures ∙ ap (λ (ns : List ℕ). map (λ (e : Row × ℕ). e.0 ++ e.1 ∷ []) (zipped found.tally.keys ns)) c.as_slice.ensures.value)
