use Rattle.std.proofs.Common.{ℕ, ◌≤◌, List, map, unwrap_or, Option, ap, sym, ◌∙◌, subst}
use Rattle.sn_base.specs.AnyFold.{any_has, any_step, any_unit}
use Rattle.sn_base.specs.Groups.{columns_at}
use Rattle.sn_table.specs.HeldEntries.{IsSound, entries_of, row_entry}
use Rattle.sn_table.specs.Narrow.{AreShort}
use Rattle.sn_table.proofs.Decoded.{keys}
use Rattle.sn_table.proofs.NarrowKeys.{Stand, stand_for_none, stand_as_before, stand_found, stand_put, still_short, reported}
use Rattle.sn_table.proofs.entries.put_at.Goals as goal
use Rattle.sn_table.proofs.entries.put_at.Goals.{then-is_empty, else-is_empty}

pub add_number-requires-clause-so_far : goal.add_number-requires-clause-so_far
add_number-requires-clause-so_far g c =
    let columns = c.if-is_empty.columns in
    let key = columns_at c.args.places.now (g.R.Columns.columns c.args.row.now) in
    let es = c.in-Narrow.numbers.entries in
    let rows = entries_of g.R.Columns.columns c.args.held.now in
    let s : Stand g.R.Number.Number.limit columns es rows = elim c.if-is_empty.branch [
      | then-is_empty w ↦ stand_for_none g.R.Number.Number.limit columns c.in-Narrow.columns es rows (subst (λ n. n ≤ 8) (sym w.columns-is) c.requires.few) (c.is_empty.ensures.0 w.if-is_empty.true) (ap (entries_of g.R.Columns.columns) c.in-Narrow.is)
      | else-is_empty w ↦ stand_as_before g.R.Number.Number.limit columns c.in-Narrow.columns es rows w.columns-is (subst (IsSound g.R.Number.Number.limit) c.in-Narrow.is c.requires.sound) (ap (entries_of g.R.Columns.columns) c.in-Narrow.is)
    ] in
    let h = reported columns key c.in-Some.number c.in-Some.ensures.number in
    subst (λ (o : Option ℕ). any_has c.args.fold (unwrap_or o (any_unit c.args.fold))) (stand_found g.R.Number.Number.limit columns c.in-Some.number key h es rows s) c.requires.so_far

pub returns-in_ok-add_number-in-Narrow-clause-sound :
    goal.returns-in_ok-add_number-in-Narrow-clause-sound
returns-in_ok-add_number-in-Narrow-clause-sound g c =
    let columns = c.if-is_empty.columns in
    let key = columns_at c.args.places.now (g.R.Columns.columns c.args.row.now) in
    let es = c.in-Narrow.numbers.entries in
    let rows = entries_of g.R.Columns.columns c.args.held.now in
    let s : Stand g.R.Number.Number.limit columns es rows = elim c.if-is_empty.branch [
      | then-is_empty w ↦ stand_for_none g.R.Number.Number.limit columns c.in-Narrow.columns es rows (subst (λ n. n ≤ 8) (sym w.columns-is) c.requires.few) (c.is_empty.ensures.0 w.if-is_empty.true) (ap (entries_of g.R.Columns.columns) c.in-Narrow.is)
      | else-is_empty w ↦ stand_as_before g.R.Number.Number.limit columns c.in-Narrow.columns es rows w.columns-is (subst (IsSound g.R.Number.Number.limit) c.in-Narrow.is c.requires.sound) (ap (entries_of g.R.Columns.columns) c.in-Narrow.is)
    ] in
    let h = reported columns key c.in-Some.number c.in-Some.ensures.number in
    subst (λ (ds : List (ℕ × ℕ)). AreShort g.R.Number.Number.limit columns (keys ds)) (sym c.in_ok-add_number-in-Narrow.ensures.ok)
    (still_short columns c.in-Some.number key h g.R.Number.Number.limit _ es c.in-Some.ensures.single s.short)

pub returns-in_ok-add_number-in-Narrow-clause-ok :
    goal.returns-in_ok-add_number-in-Narrow-clause-ok
returns-in_ok-add_number-in-Narrow-clause-ok g c =
    let columns = c.if-is_empty.columns in
    let key = columns_at c.args.places.now (g.R.Columns.columns c.args.row.now) in
    let es = c.in-Narrow.numbers.entries in
    let rows = entries_of g.R.Columns.columns c.args.held.now in
    let s : Stand g.R.Number.Number.limit columns es rows = elim c.if-is_empty.branch [
      | then-is_empty w ↦ stand_for_none g.R.Number.Number.limit columns c.in-Narrow.columns es rows (subst (λ n. n ≤ 8) (sym w.columns-is) c.requires.few) (c.is_empty.ensures.0 w.if-is_empty.true) (ap (entries_of g.R.Columns.columns) c.in-Narrow.is)
      | else-is_empty w ↦ stand_as_before g.R.Number.Number.limit columns c.in-Narrow.columns es rows w.columns-is (subst (IsSound g.R.Number.Number.limit) c.in-Narrow.is c.requires.sound) (ap (entries_of g.R.Columns.columns) c.in-Narrow.is)
    ] in
    let h = reported columns key c.in-Some.number c.in-Some.ensures.number in
    let step : Option ℕ → ℕ = λ o. any_step c.args.fold (unwrap_or o (any_unit c.args.fold)) c.args.value in
    ap (map (row_entry columns)) c.in_ok-add_number-in-Narrow.ensures.ok
    ∙ stand_put g.R.Number.Number.limit columns c.in-Some.number key h es rows s _ _ (ap step (sym (stand_found g.R.Number.Number.limit columns c.in-Some.number key h es rows s)))
