use Rattle.std.proofs.Common.{◌≡◌, ◌≤◌, ◌<◌, ℕ, List, [], length, map, slice_index, ap, sym, subst, ◌∙◌}
use Rattle.std.specs.List.{AllByRecursion}
use Rattle.std.proofs.lemmas.List.{length-map}
use Rattle.sn_base.specs.Groups.{Row, columns_at, keyed, once, same_row}
use Rattle.sn_base.specs.Operators.{grouped}
use Rattle.sn_cost_seats.specs.Seats.{row_at, rows_at}
use Rattle.sn_cost_seats.specs.Tallies.{marked, tallied}
use Rattle.sn_cost_tally.specs.Numbered.{zipped}
use Rattle.sn_windows.specs.Blocks.{most_records}
use Rattle.sn_cost_counts.proofs.Remaking.{keys_few, map_marked, zipped_keyed}
use Rattle.sn_cost_counts.proofs.Going.{if_ok}
use Rattle.sn_cost_counts.proofs.again.groups_marked.Goals as goal

pub group_marked-requires-clause-long : goal.group_marked-requires-clause-long
group_marked-requires-clause-long g c =
    let a = c.args in
    sym (length-map a.all.now.of_rows.items (row_at a.all.now.keys)) ∙ ap length c.requires.numbered.at ∙ length-map a.rows.now (columns_at a.r.now.keys)

pub group_marked-requires-clause-short : goal.group_marked-requires-clause-short
group_marked-requires-clause-short g c =
    subst (λ (keys : List Row). AllByRecursion (λ (key : Row). length key < 8) keys) (sym c.requires.numbered.at) (keys_few c.args.r.now.keys c.args.rows.now c.requires.fits.few)

pub group_marked-requires-clause-few : goal.group_marked-requires-clause-few
group_marked-requires-clause-few g c =
    let f : Row → Row = columns_at c.args.r.now.keys in
    let rows : List Row = marked c.args.marks.now c.args.rows.now in
    subst (λ (n : ℕ). n ≤ most_records) (sym (ap (λ (keys : List Row). length (marked c.args.marks.now keys)) c.requires.numbered.at ∙ ap length (map_marked f c.args.marks.now c.args.rows.now) ∙ length-map rows f)) c.requires.few

pub returns-clause-keys : goal.returns-clause-keys
returns-clause-keys g c =
    let f : Row → Row = columns_at c.args.r.now.keys in
    let marks = c.args.marks.now in
    if_ok c.group_marked.result (λ groups. groups.tally.keys ≡ once same_row (marked marks (rows_at c.args.all.now.keys c.args.all.now.of_rows.items))) _
    (λ groups is. is ∙ ap (λ (keys : List Row). once same_row (marked marks keys)) c.requires.numbered.at ∙ ap (once same_row) (map_marked f marks c.args.rows.now)) c.group_marked.ensures.keys

pub returns-clause-times : goal.returns-clause-times
returns-clause-times g c =
    let f : Row → Row = columns_at c.args.r.now.keys in
    let marks = c.args.marks.now in
    if_ok c.group_marked.result (λ groups. groups.tally.times.items ≡ tallied (marked marks (rows_at c.args.all.now.keys c.args.all.now.of_rows.items))) _
    (λ groups is. is ∙ ap (λ (keys : List Row). tallied (marked marks keys)) c.requires.numbered.at ∙ ap tallied (map_marked f marks c.args.rows.now)) c.group_marked.ensures.times

pub returns-clause-rows : goal.returns-clause-rows
returns-clause-rows g c =
    let r = c.args.r.now in
    let marks = c.args.marks.now in
    let rows : List Row = c.args.rows.now in
    let values : List ℕ = map (λ row. slice_index row r.value) rows in
    let made : List (Row × ℕ) → List Row = grouped (record { places = []; value = r.value; by = r.fold }) in
    if_ok c.group_marked.result (λ groups. groups.rows ≡ made (marked marks (zipped (rows_at c.args.all.now.keys c.args.all.now.of_rows.items) values))) _
    (λ groups is.
    is ∙ ap (λ (keys : List Row). made (marked marks (zipped keys values))) c.requires.numbered.at
    ∙ ap (λ (pairs : List (Row × ℕ)). made (marked marks pairs)) (zipped_keyed r.keys r.value rows) ∙ ap made (map_marked (keyed r.keys r.value) marks rows))
    c.group_marked.ensures.rows
