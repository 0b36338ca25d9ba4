use Rattle.std.proofs.Common.{◌≡◌, ℕ, List, Bool, map, ap, sym, refl, ◌∙◌}
use Rattle.std.specs.String.{string_bytes}
use Rattle.sn_io.specs.Known.{is_named, counted}
use Rattle.sn_io.specs.declared.known.Entry.{Entry}
use Rattle.sn_io.proofs.Updates.{set_first, absent_stays, map-with_first}
use Rattle.sn_io.proofs.known.raise_first.Goals as goal

abbrev shown : Entry → List ℕ × ℕ
shown e = (string_bytes e.name, e.count)

abbrev test : List ℕ → Entry → Bool
test name e = is_named name (shown e)

abbrev change : Entry → Entry
change e = record e { count = counted e.count }

pub returns-in-Some : goal.returns-in-Some
returns-in-Some c =
    let items = c.args.known.now.items in
    let name = c.args.name.now in
    let d = c.index_mut-entry.result.now in
    let found = rw c.deref.ensures.value at c.in-Some.ensures in
    let y : Entry = record d { count = c.one_more-entry.result } in
    let same : y ≡ change d = ap (λ (n : ℕ). record d { count = n }) c.one_more-entry.ensures in
    ap (map shown) (set_first (test name) change items c.in-Some.place d y (sym found) (same ∙ ap change c.index_mut-entry.ensures.value))
    ∙ map-with_first shown (test name) change (is_named name) (λ entry. (entry.0, counted entry.1)) items (λ e. refl) (λ e. refl)

pub returns-in_default : goal.returns-in_default
returns-in_default c =
    let items = c.args.known.now.items in
    let name = c.args.name.now in
    let missed = rw c.deref.ensures.value at c.in_default.ensures in
    sym (ap (map shown) (absent_stays (test name) change items (sym missed)))
    ∙ map-with_first shown (test name) change (is_named name) (λ entry. (entry.0, counted entry.1)) items (λ e. refl) (λ e. refl)
