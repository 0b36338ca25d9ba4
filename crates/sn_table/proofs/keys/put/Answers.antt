use Rattle.std.proofs.Common.{◌≤◌, map, not, ap, sym, ◌∙◌, subst}
use Rattle.std.specs.List.{list_any, position_or_len}
use Rattle.indexmap.specs.IndexSet.{insert_key}
use Rattle.sn_base.specs.Groups.{same_row}
use Rattle.sn_table.specs.HeldKeys.{IsSound, keys_of}
use Rattle.sn_table.specs.Narrow.{AreShort, columns_of}
use Rattle.sn_table.proofs.NarrowKeys.{reported}
use Rattle.sn_table.proofs.NarrowRows.{StandFor, stand_for_no_row, stand_for_the_same, member_by_number, place_by_number, inserted_by_number, short_with_number}
use Rattle.sn_table.proofs.RowKeys.{any_by_row, place_by_row, put_key_by_row}
use Rattle.sn_table.proofs.keys.put.Goals as goal
use Rattle.sn_table.proofs.keys.put.Goals.{then-is_empty, else-is_empty}

pub returns-in_ok-insert_number-in-Narrow-clause-sound :
    goal.returns-in_ok-insert_number-in-Narrow-clause-sound
returns-in_ok-insert_number-in-Narrow-clause-sound g c =
    let columns = c.if-is_empty.columns in
    let ns = c.in-Narrow.numbers.keys in
    let rows = keys_of g.R.Columns.columns c.args.held.now in
    let s : StandFor g.R.Number.Number.limit columns ns rows = elim c.if-is_empty.branch [
      | then-is_empty w ↦ stand_for_no_row g.R.Number.Number.limit columns c.in-Narrow.columns ns rows (subst (λ n. n ≤ 8) (sym w.columns-is) w.len.ensures.most) (c.is_empty.ensures.0 w.if-is_empty.true) (ap (keys_of g.R.Columns.columns) c.in-Narrow.is)
      | else-is_empty w ↦ stand_for_the_same g.R.Number.Number.limit columns c.in-Narrow.columns ns rows w.columns-is (subst (IsSound g.R.Number.Number.limit) c.in-Narrow.is c.requires) (ap (keys_of g.R.Columns.columns) c.in-Narrow.is)
    ] in
    let h = reported columns (g.R.Columns.columns c.args.row.now) c.in-Some.number (sym c.number_of.ensures.number ∙ c.in-Some.is) in
    subst (AreShort g.R.Number.Number.limit columns) (sym c.in_ok-insert_number-in-Narrow.ensures.keys)
    (short_with_number g.R.Number.Number.limit columns c.in-Some.number (g.R.Columns.columns c.args.row.now) h ns rows s c.in-Some.ensures.single)

pub returns-in_ok-insert_number-in-Narrow-clause-place :
    goal.returns-in_ok-insert_number-in-Narrow-clause-place
returns-in_ok-insert_number-in-Narrow-clause-place g c =
    let columns = c.if-is_empty.columns in
    let ns = c.in-Narrow.numbers.keys in
    let rows = keys_of g.R.Columns.columns c.args.held.now in
    let s : StandFor g.R.Number.Number.limit columns ns rows = elim c.if-is_empty.branch [
      | then-is_empty w ↦ stand_for_no_row g.R.Number.Number.limit columns c.in-Narrow.columns ns rows (subst (λ n. n ≤ 8) (sym w.columns-is) w.len.ensures.most) (c.is_empty.ensures.0 w.if-is_empty.true) (ap (keys_of g.R.Columns.columns) c.in-Narrow.is)
      | else-is_empty w ↦ stand_for_the_same g.R.Number.Number.limit columns c.in-Narrow.columns ns rows w.columns-is (subst (IsSound g.R.Number.Number.limit) c.in-Narrow.is c.requires) (ap (keys_of g.R.Columns.columns) c.in-Narrow.is)
    ] in
    let h = reported columns (g.R.Columns.columns c.args.row.now) c.in-Some.number (sym c.number_of.ensures.number ∙ c.in-Some.is) in
    c.in_ok-insert_number-in-Narrow.ensures.place ∙ sym (place_by_number g.R.Number.Number.limit columns c.in-Some.number (g.R.Columns.columns c.args.row.now) h ns rows s)

pub returns-in_ok-insert_number-in-Narrow-clause-new :
    goal.returns-in_ok-insert_number-in-Narrow-clause-new
returns-in_ok-insert_number-in-Narrow-clause-new g c =
    let columns = c.if-is_empty.columns in
    let ns = c.in-Narrow.numbers.keys in
    let rows = keys_of g.R.Columns.columns c.args.held.now in
    let s : StandFor g.R.Number.Number.limit columns ns rows = elim c.if-is_empty.branch [
      | then-is_empty w ↦ stand_for_no_row g.R.Number.Number.limit columns c.in-Narrow.columns ns rows (subst (λ n. n ≤ 8) (sym w.columns-is) w.len.ensures.most) (c.is_empty.ensures.0 w.if-is_empty.true) (ap (keys_of g.R.Columns.columns) c.in-Narrow.is)
      | else-is_empty w ↦ stand_for_the_same g.R.Number.Number.limit columns c.in-Narrow.columns ns rows w.columns-is (subst (IsSound g.R.Number.Number.limit) c.in-Narrow.is c.requires) (ap (keys_of g.R.Columns.columns) c.in-Narrow.is)
    ] in
    let h = reported columns (g.R.Columns.columns c.args.row.now) c.in-Some.number (sym c.number_of.ensures.number ∙ c.in-Some.is) in
    c.in_ok-insert_number-in-Narrow.ensures.new ∙ ap not (sym (member_by_number g.R.Number.Number.limit columns c.in-Some.number (g.R.Columns.columns c.args.row.now) h ns rows s))

pub returns-in_ok-insert_number-in-Narrow-clause-keys :
    goal.returns-in_ok-insert_number-in-Narrow-clause-keys
returns-in_ok-insert_number-in-Narrow-clause-keys g c =
    let columns = c.if-is_empty.columns in
    let ns = c.in-Narrow.numbers.keys in
    let rows = keys_of g.R.Columns.columns c.args.held.now in
    let s : StandFor g.R.Number.Number.limit columns ns rows = elim c.if-is_empty.branch [
      | then-is_empty w ↦ stand_for_no_row g.R.Number.Number.limit columns c.in-Narrow.columns ns rows (subst (λ n. n ≤ 8) (sym w.columns-is) w.len.ensures.most) (c.is_empty.ensures.0 w.if-is_empty.true) (ap (keys_of g.R.Columns.columns) c.in-Narrow.is)
      | else-is_empty w ↦ stand_for_the_same g.R.Number.Number.limit columns c.in-Narrow.columns ns rows w.columns-is (subst (IsSound g.R.Number.Number.limit) c.in-Narrow.is c.requires) (ap (keys_of g.R.Columns.columns) c.in-Narrow.is)
    ] in
    let h = reported columns (g.R.Columns.columns c.args.row.now) c.in-Some.number (sym c.number_of.ensures.number ∙ c.in-Some.is) in
    ap (map (columns_of columns)) c.in_ok-insert_number-in-Narrow.ensures.keys ∙ inserted_by_number g.R.Number.Number.limit columns c.in-Some.number (g.R.Columns.columns c.args.row.now) h ns rows s

pub returns-in_ok-insert_row-in-Wide-clause-place :
    goal.returns-in_ok-insert_row-in-Wide-clause-place
returns-in_ok-insert_row-in-Wide-clause-place g c =
    let row = g.R.Columns.columns c.args.row.now in
    let known = ap (λ held. position_or_len (same_row row) (keys_of g.R.Columns.columns held)) c.in-Wide.is
    ∙ place_by_row g.R.PartialEq.eq g.R.Columns.columns g.met.R.AnyRow.same c.args.row.now c.in-Wide.rows.keys in
    c.in_ok-insert_row-in-Wide.ensures.place ∙ sym known

pub returns-in_ok-insert_row-in-Wide-clause-new : goal.returns-in_ok-insert_row-in-Wide-clause-new
returns-in_ok-insert_row-in-Wide-clause-new g c =
    let row = g.R.Columns.columns c.args.row.now in
    let known = ap (λ held. list_any (same_row row) (keys_of g.R.Columns.columns held)) c.in-Wide.is
    ∙ any_by_row g.R.PartialEq.eq g.R.Columns.columns g.met.R.AnyRow.same c.args.row.now c.in-Wide.rows.keys in
    c.in_ok-insert_row-in-Wide.ensures.new ∙ ap not (sym known)

pub returns-in_ok-insert_row-in-Wide-clause-keys : goal.returns-in_ok-insert_row-in-Wide-clause-keys
returns-in_ok-insert_row-in-Wide-clause-keys g c =
    let row = g.R.Columns.columns c.args.row.now in
    ap (map g.R.Columns.columns) c.in_ok-insert_row-in-Wide.ensures.keys
    ∙ put_key_by_row g.R.PartialEq.eq g.R.Columns.columns g.met.R.AnyRow.same c.args.row.now c.in-Wide.rows.keys
    ∙ ap (λ held. insert_key same_row (keys_of g.R.Columns.columns held) row) (sym c.in-Wide.is)
