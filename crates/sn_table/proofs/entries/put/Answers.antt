use Rattle.std.proofs.Common.{ℕ, ◌≤◌, List, map, unwrap_or, Option, ap, ap₂, sym, ◌∙◌, subst}
use Rattle.std.specs.Map.{lookup}
use Rattle.indexmap.specs.IndexMap.{insert_entry}
use Rattle.sn_base.specs.AnyFold.{any_has, any_step, any_unit}
use Rattle.sn_base.specs.Groups.{Row, same_row}
use Rattle.sn_table.specs.HeldEntries.{IsSound, entries_of, row_entry}
use Rattle.sn_table.specs.Narrow.{AreShort}
use Rattle.sn_table.proofs.Decoded.{keys}
use Rattle.sn_table.proofs.NarrowKeys.{Stand, stand_for_none, stand_as_before, stand_found, stand_put, still_short, reported}
use Rattle.sn_table.proofs.RowKeys.{found_by_row, put_by_row}
use Rattle.sn_table.proofs.entries.put.Goals as goal
use Rattle.sn_table.proofs.entries.put.Goals.{then-is_empty, else-is_empty}

pub add_number-requires-clause-so_far : goal.add_number-requires-clause-so_far
add_number-requires-clause-so_far g c =
    let columns = c.if-is_empty.columns in
    let es = c.in-Narrow.numbers.entries in
    let rows = entries_of g.R.Columns.columns c.args.held.now in
    let s : Stand g.R.Number.Number.limit columns es rows = elim c.if-is_empty.branch [
      | then-is_empty w ↦ stand_for_none g.R.Number.Number.limit columns c.in-Narrow.columns es rows (subst (λ n. n ≤ 8) (sym w.columns-is) w.len.ensures.most) (c.is_empty.ensures.0 w.if-is_empty.true) (ap (entries_of g.R.Columns.columns) c.in-Narrow.is)
      | else-is_empty w ↦ stand_as_before g.R.Number.Number.limit columns c.in-Narrow.columns es rows w.columns-is (subst (IsSound g.R.Number.Number.limit) c.in-Narrow.is c.requires.sound) (ap (entries_of g.R.Columns.columns) c.in-Narrow.is)
    ] in
    let h = reported columns (g.R.Columns.columns c.args.key.now) c.in-Some.number (sym c.number_of.ensures.number ∙ c.in-Some.is) in
    subst (λ (o : Option ℕ). any_has c.args.fold (unwrap_or o (any_unit c.args.fold))) (stand_found g.R.Number.Number.limit columns c.in-Some.number (g.R.Columns.columns c.args.key.now) h es rows s) c.requires.so_far

pub returns-in_ok-add_number-in-Narrow-clause-sound :
    goal.returns-in_ok-add_number-in-Narrow-clause-sound
returns-in_ok-add_number-in-Narrow-clause-sound g c =
    let columns = c.if-is_empty.columns in
    let es = c.in-Narrow.numbers.entries in
    let rows = entries_of g.R.Columns.columns c.args.held.now in
    let s : Stand g.R.Number.Number.limit columns es rows = elim c.if-is_empty.branch [
      | then-is_empty w ↦ stand_for_none g.R.Number.Number.limit columns c.in-Narrow.columns es rows (subst (λ n. n ≤ 8) (sym w.columns-is) w.len.ensures.most) (c.is_empty.ensures.0 w.if-is_empty.true) (ap (entries_of g.R.Columns.columns) c.in-Narrow.is)
      | else-is_empty w ↦ stand_as_before g.R.Number.Number.limit columns c.in-Narrow.columns es rows w.columns-is (subst (IsSound g.R.Number.Number.limit) c.in-Narrow.is c.requires.sound) (ap (entries_of g.R.Columns.columns) c.in-Narrow.is)
    ] in
    let h = reported columns (g.R.Columns.columns c.args.key.now) c.in-Some.number (sym c.number_of.ensures.number ∙ c.in-Some.is) in
    subst (λ (ds : List (ℕ × ℕ)). AreShort g.R.Number.Number.limit columns (keys ds)) (sym c.in_ok-add_number-in-Narrow.ensures.ok)
    (still_short columns c.in-Some.number (g.R.Columns.columns c.args.key.now) h g.R.Number.Number.limit _ es c.in-Some.ensures.single s.short)

pub returns-in_ok-add_number-in-Narrow-clause-ok :
    goal.returns-in_ok-add_number-in-Narrow-clause-ok
returns-in_ok-add_number-in-Narrow-clause-ok g c =
    let columns = c.if-is_empty.columns in
    let es = c.in-Narrow.numbers.entries in
    let rows = entries_of g.R.Columns.columns c.args.held.now in
    let s : Stand g.R.Number.Number.limit columns es rows = elim c.if-is_empty.branch [
      | then-is_empty w ↦ stand_for_none g.R.Number.Number.limit columns c.in-Narrow.columns es rows (subst (λ n. n ≤ 8) (sym w.columns-is) w.len.ensures.most) (c.is_empty.ensures.0 w.if-is_empty.true) (ap (entries_of g.R.Columns.columns) c.in-Narrow.is)
      | else-is_empty w ↦ stand_as_before g.R.Number.Number.limit columns c.in-Narrow.columns es rows w.columns-is (subst (IsSound g.R.Number.Number.limit) c.in-Narrow.is c.requires.sound) (ap (entries_of g.R.Columns.columns) c.in-Narrow.is)
    ] in
    let h = reported columns (g.R.Columns.columns c.args.key.now) c.in-Some.number (sym c.number_of.ensures.number ∙ c.in-Some.is) in
    let step : Option ℕ → ℕ = λ o. any_step c.args.fold (unwrap_or o (any_unit c.args.fold)) c.args.value in
    ap (map (row_entry columns)) c.in_ok-add_number-in-Narrow.ensures.ok
    ∙ stand_put g.R.Number.Number.limit columns c.in-Some.number (g.R.Columns.columns c.args.key.now) h es rows s _ _ (ap step (sym (stand_found g.R.Number.Number.limit columns c.in-Some.number (g.R.Columns.columns c.args.key.now) h es rows s)))

pub add_row-requires-clause-so_far : goal.add_row-requires-clause-so_far
add_row-requires-clause-so_far g c =
    let key = g.R.Columns.columns c.args.key.now in
    let es = c.in-Wide.rows.entries in
    let found = ap (λ held. lookup (same_row key) (entries_of g.R.Columns.columns held)) c.in-Wide.is
    ∙ found_by_row g.R.PartialEq.eq g.R.Columns.columns g.met.R.AnyRow.same c.args.key.now es in
    subst (λ (o : Option ℕ). any_has c.args.fold (unwrap_or o (any_unit c.args.fold))) found c.requires.so_far

pub returns-in_ok-add_row-in-Wide-clause-ok : goal.returns-in_ok-add_row-in-Wide-clause-ok
returns-in_ok-add_row-in-Wide-clause-ok g c =
    let key = g.R.Columns.columns c.args.key.now in
    let es = c.in-Wide.rows.entries in
    let are = ap (entries_of g.R.Columns.columns) c.in-Wide.is in
    let step : Option ℕ → ℕ = λ o. any_step c.args.fold (unwrap_or o (any_unit c.args.fold)) c.args.value in
    let found = ap (lookup (same_row key)) are ∙ found_by_row g.R.PartialEq.eq g.R.Columns.columns g.met.R.AnyRow.same c.args.key.now es in
    ap (map (λ e. (g.R.Columns.columns e.0, e.1))) c.in_ok-add_row-in-Wide.ensures.ok
    ∙ put_by_row g.R.PartialEq.eq g.R.Columns.columns g.met.R.AnyRow.same c.args.key.now _ es
    ∙ ap₂ (λ (rows : List (Row × ℕ)) (n : ℕ). insert_entry same_row rows key n) (sym are) (ap step (sym found))
