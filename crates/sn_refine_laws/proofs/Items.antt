-- The value of the items whose carried number passes is what passes of the value of all.
use Rattle.std.proofs.Common.{◌≡◌, ℕ, suc, ◌+◌, ◌<◌, ◌≤◌, List, [], ◌∷◌, ◌++◌, map, filter, take, length, slice_index, Bool, true, false, cond, refl, ap, sym, ◌∙◌, subst, arith}
use Rattle.std.specs.List.{AllByRecursion}
use Rattle.std.proofs.lemmas.List.{map-append, length-take-le, get_or-take}
use Rattle.std.proofs.lemmas.List.Elements.{filter-append}
use Rattle.sn_base.proofs.GroupLemmas.{keys, keys_of}
use Rattle.sn_base.proofs.Lists.{all_append, by_test, filter_map, nat_same}
use Rattle.sn_base.specs.Groups.{Row}
use Rattle.sn_base.specs.Operators.{Grouping, Op, grouped, pair_of, parted}
use Rattle.sn_base.specs.Operators.Op.{Filter, Map, Distinct, Reduce}
use Rattle.sn_pipe_items.specs.Value.{finish, is_at, is_partial, rows_with, taken, value}
use Rattle.sn_report.specs.Items.{Item}
use Rattle.sn_report.specs.declared.frame.Tag.{Tag}
use Rattle.sn_report.specs.declared.frame.Tag.TheVariants.{At, Partial}
use Rattle.sn_refine_laws.specs.Carrying.{CarriesTo, passes}
use Rattle.sn_refine_laws.specs.Dropping.{AllPartsLong, CarryAlong, PartsLong, passing, place_of_tag}
use Rattle.sn_refine_laws.proofs.Filtering.{apply_filtered, filter_where, grouped_filtered, keys_long, pairs_filtered}

module _ (keep : ℕ → Bool) where
  -- ---- a reduce with Partial rows

  parts_filtered : (g : Grouping) (q : ℕ) → q < length g.places → (rows : List Row) → AllByRecursion (λ (row : Row). length g.places ≤ length row) rows →
      map (parted g) (filter (passes keep q) rows) ≡ filter (λ x. passes keep q x.0) (map (parted g) rows)
  parts_filtered g q lt rows long =
      ap (map (parted g)) (filter_where (passes keep q) (λ row. passes keep q (parted g row).0) rows (each rows))
      ∙ filter_map (parted g) (λ (x : Row × ℕ). passes keep q x.0) rows
    where
      each : (rows : List Row) → AllByRecursion (λ row. passes keep q row ≡ passes keep q (take (length g.places) row)) rows
      each [] = tt
      each (row ∷ rows) = (ap keep (sym (get_or-take (length g.places) row q 0 lt)), each rows)

  parts_long : (g : Grouping) (q : ℕ) → q < length g.places → (rows : List Row) → AllByRecursion (λ (row : Row). length g.places ≤ length row) rows → AllByRecursion (λ (k : Row). q < length k) (keys (map (parted g) rows))
  parts_long g q lt [] long = tt
  parts_long g q lt (row ∷ rows) long = (subst (λ (n : ℕ). q < n) (sym (length-take-le (length g.places) row long.0)) lt, parts_long g q lt rows long.1)

  -- ---- one operator

  taken_filtered : (op : Op) (p q : ℕ) → CarriesTo op p q → (rows partial : List Row) → PartsLong op partial → taken op (filter (passes keep p) rows) (filter (passes keep q) partial) ≡ filter (passes keep q) (taken op rows partial)
  taken_filtered (Filter t) p q c rows partial long = apply_filtered keep (Filter t) p q c rows
  taken_filtered (Map f) p q c rows partial long = apply_filtered keep (Map f) p q c rows
  taken_filtered Distinct p q c rows partial long = apply_filtered keep Distinct p q c rows
  taken_filtered (Reduce g) p q c rows partial long =
      let test : Row × ℕ → Bool = λ x. passes keep q x.0 in
      let ps = map (pair_of g) rows in
      let qs = map (parted g) partial in
      ap (λ xs. grouped g (xs ++ map (parted g) (filter (passes keep q) partial))) (pairs_filtered keep g p q c rows)
      ∙ ap (λ xs. grouped g (filter test ps ++ xs)) (parts_filtered g q c.0 partial long)
      ∙ ap (grouped g) (sym (filter-append test ps qs))
      ∙ grouped_filtered keep g q (ps ++ qs)
      (subst (λ (ks : List Row). AllByRecursion (λ (k : Row). q < length k) ks) (sym (map-append (λ (x : Row × ℕ). x.0) ps qs))
      (all_append (λ (k : Row). q < length k) (keys ps) (keys qs) (subst (λ (ks : List Row). AllByRecursion (λ (k : Row). q < length k) ks) (sym (keys_of g rows)) (keys_long keep g q c.0 rows)) (parts_long g q c.0 partial long)))

  -- ---- items

  module _ (places : ℕ → ℕ) where
    abbrev stays : Item → Bool
    stays item = keep (slice_index item.row (place_of_tag places item.tag))

    -- the rows with a tag, of the items that pass
    rows_filtered : (t : Tag → Bool) (p : ℕ) → ((tag : Tag) → t tag ≡ true → place_of_tag places tag ≡ p) → (found : List Item) → rows_with t (passing keep places found) ≡ filter (passes keep p) (rows_with t found)
    rows_filtered t p at [] = refl
    rows_filtered t p at (item ∷ found) =
        let rest = passing keep places found in
        let rows = rows_with t found in
        let h = rows_filtered t p at found in
        let row_of : List Item → List Row = map (λ (x : Item). x.row) in
        let left : Bool → List Row = λ b. row_of (filter (λ x. t x.tag) (cond b (item ∷ rest) rest)) in
        let right : Bool → List Row = λ c. filter (passes keep p) (row_of (cond c (item ∷ filter (λ x. t x.tag) found) (filter (λ x. t x.tag) found))) in
        by_test (t item.tag)
        (λ is. let same : stays item ≡ passes keep p item.row = ap (λ n. keep (slice_index item.row n)) (at item.tag is) in
        let reported : (b : Bool) → left b ≡ cond b (item.row ∷ filter (passes keep p) rows) (filter (passes keep p) rows) =
        λ b. elim b as (λ b. left b ≡ cond b (item.row ∷ filter (passes keep p) rows) (filter (passes keep p) rows)) [
          | true ↦ ap (λ c. row_of (cond c (item ∷ filter (λ x. t x.tag) rest) (filter (λ x. t x.tag) rest))) is ∙ ap (λ xs. item.row ∷ xs) h
          | false ↦ h
        ] in
        reported (stays item) ∙ ap (λ b. cond b (item.row ∷ filter (passes keep p) rows) (filter (passes keep p) rows)) same ∙ sym (ap right is))
        (λ isnt. (elim (stays item) as (λ b. left b ≡ filter (passes keep p) rows) [
          | true ↦ ap (λ c. row_of (cond c (item ∷ filter (λ x. t x.tag) rest) (filter (λ x. t x.tag) rest))) isnt ∙ h
          | false ↦ h
        ]) ∙ sym (ap right isnt))

    at_place : (i : ℕ) (tag : Tag) → is_at i tag ≡ true → place_of_tag places tag ≡ places i
    at_place i (At j) is = ap places (sym (nat_same i j is))
    at_place i (Partial j) is = cc

    partial_place : (i : ℕ) (tag : Tag) → is_partial i tag ≡ true → place_of_tag places tag ≡ places (suc i)
    partial_place i (At j) is = cc
    partial_place i (Partial j) is = ap (λ n. places (suc n)) (sym (nat_same i j is))

    finish_filtered : (i n : ℕ) (ops : List Op) → i + length ops ≡ n → CarryAlong places i ops → (found : List Item) → AllPartsLong i ops found → (into : List Row) →
        finish i ops (passing keep places found) (filter (passes keep (places i)) into) ≡ filter (passes keep (places n)) (finish i ops found into)
    finish_filtered i n [] end c found long into = let same : i ≡ n = omega (arith, end) in ap (λ k. filter (passes keep (places k)) into) same
    finish_filtered i n (op ∷ ops) end c found long into =
        let some = passing keep places found in
        let p = places i in
        let q = places (suc i) in
        let partial = rows_with (is_partial i) found in
        let next = rows_with (is_at (suc i)) found in
        ap (λ ps. finish (suc i) ops some (taken op (filter (passes keep p) into) ps ++ rows_with (is_at (suc i)) some)) (rows_filtered (is_partial i) q (partial_place i) found)
        ∙ ap (λ xs. finish (suc i) ops some (taken op (filter (passes keep p) into) (filter (passes keep q) partial) ++ xs)) (rows_filtered (is_at (suc i)) q (at_place (suc i)) found)
        ∙ ap (λ xs. finish (suc i) ops some (xs ++ filter (passes keep q) next)) (taken_filtered op p q c.0 into partial long.0)
        ∙ ap (finish (suc i) ops some) (sym (filter-append (passes keep q) (taken op into partial) next))
        ∙ finish_filtered (suc i) n ops (omega (arith, end)) c.1 found long.1 (taken op into partial ++ next)

    -- what the engine makes of the items that pass is what passes of what it makes of all
    pub value_filtered : (ops : List Op) → CarryAlong places 0 ops → (found : List Item) → AllPartsLong 0 ops found → value ops (passing keep places found) ≡ filter (passes keep (places (length ops))) (value ops found)
    value_filtered ops c found long =
        ap (finish 0 ops (passing keep places found)) (rows_filtered (is_at 0) (places 0) (at_place 0) found)
        ∙ finish_filtered 0 (length ops) ops (omega arith) c found long (rows_with (is_at 0) found)
