-- Keys by number, one row more.
use Rattle.std.proofs.Common.{◌≡◌, ℕ, zero, suc, ◌-◌, ◌<◌, List, [], ◌∷◌, ◌++◌, map, length, replicate, nat_lt, slice_get, slice_set, slice_index_or, Bool, true, false, cond, Some, None, refl, ap, sym, subst, ◌∙◌, arith}
use Rattle.std.specs.List.{AllByRecursion, list_any, position_or_len}
use Rattle.std.specs.Option.{option_map_or}
use Rattle.std.specs.Cmp.Lexicographic.{nat_list_eq_equiv}
use Rattle.std.proofs.lemmas.Bool.{le-ltb, lt-ltb, ltb-false, ltb-true}
use Rattle.std.proofs.lemmas.List.{length-append, map-append}
use Rattle.std.proofs.lemmas.Option.{get_or_from_slice_get, slice_get-get_or}
use Rattle.indexmap.specs.IndexSet.{insert_key}
use Rattle.sn_base.specs.Groups.{Apart, Row, once, same_row}
use Rattle.sn_base.proofs.FoldedLemmas.{same_row_exact}
use Rattle.sn_base.proofs.Lists.{all_append, by_test, none_some, some_same}
use Rattle.sn_base.proofs.OnceLemmas.{any_once, once_push}
use Rattle.sn_cost_seats.specs.Seats.{row_at, rows_at}
use Rattle.sn_cost_tally.specs.Largest.{largest_slots}
use Rattle.sn_cost_tally.specs.Renumbered.{AreNumbered, AreRenumbered, placed}
use Rattle.sn_cost_tally.proofs.Folding.{at_most, keys_next, keys_same}
use Rattle.sn_cost_tally.proofs.Places.{at_last, at_past, at_stays, none_before, stay_at, still_within}

-- ---- numbers of rows' keys

-- where a key is added, or was there before, the others stay
grown_at : (ks : List Row) (key : Row) (ns : List ℕ) → AllByRecursion (λ n. n < length ks) ns → rows_at (insert_key same_row ks key) ns ≡ rows_at ks ns
grown_at ks key ns h = elim (list_any (same_row key) ks) as (λ b. rows_at (cond b ks (ks ++ key ∷ [])) ns ≡ rows_at ks ns) [ true ↦ refl | false ↦ stay_at ks key ns h ]

grown_within : (ks : List Row) (key : Row) (ns : List ℕ) → AllByRecursion (λ n. n < length ks) ns → AllByRecursion (λ n. n < length (insert_key same_row ks key)) ns
grown_within ks key ns h = elim (list_any (same_row key) ks) as (λ b. AllByRecursion (λ n. n < length (cond b ks (ks ++ key ∷ []))) ns) [ true ↦ h | false ↦ still_within ks key ns h ]

-- one row more among the distinct ones
once_inserted : (rows : List Row) (key : Row) → once same_row (rows ++ key ∷ []) ≡ insert_key same_row (once same_row rows) key
once_inserted rows key =
    once_push nat_list_eq_equiv rows key
    ∙ ap (λ b. cond b (once same_row rows) (once same_row rows ++ key ∷ [])) (sym (any_once nat_list_eq_equiv same_row_exact key rows))

pub one_numbered : (ks found rows : List Row) (key : Row) (ns new : List ℕ) (n : ℕ) → found ≡ insert_key same_row ks key → n < length found → slice_get found n ≡ Some key → new ≡ ns ++ n ∷ [] → AreNumbered ks rows ns → AreNumbered found (rows ++ key ∷ []) new
one_numbered ks found rows key ns new n grown lt is pushed h =
    let stay : rows_at found ns ≡ rows = ap (λ xs. rows_at xs ns) grown ∙ grown_at ks key ns h.within ∙ h.at in
    let within : AllByRecursion (λ m. m < length found) ns = subst (λ (xs : List Row). AllByRecursion (λ m. m < length xs) ns) (sym grown) (grown_within ks key ns h.within) in
    record {
      distinct = grown ∙ ap (λ ks. insert_key same_row ks key) h.distinct ∙ sym (once_inserted rows key);
      at =
          ap (rows_at found) pushed ∙ map-append (row_at found) ns (n ∷ [])
          ∙ ap (λ xs. xs ++ row_at found n ∷ []) stay
          ∙ ap (λ x. rows ++ x ∷ []) (get_or_from_slice_get found n key [] is);
      within = subst (AllByRecursion (λ m. m < length found)) (sym pushed) (all_append (λ m. m < length found) ns (n ∷ []) within (lt, tt));
    }

-- where there is a number, there is its row
pub none_missing : (keys : List Row) (n count : ℕ) (reported : Bool) (row : Row) → n < count → count ≡ length keys → reported ≡ false → slice_get keys n ≡ cond reported (Some row) None → ⊥
none_missing keys n count reported row lt is isnt got =
    none_some (sym (got ∙ ap (λ b. cond b (Some row) None) isnt) ∙ slice_get-get_or keys n [] (omega (arith, lt, is)))

-- ---- places of keys that came

pub holds_at : {X : Type 0} (P : X → Type 0) (xs : List X) (i : ℕ) (x : X) → AllByRecursion P xs → slice_get xs i ≡ Some x → P x
holds_at P [] i x h is = absurd (none_some is)
holds_at P (y ∷ xs) zero x h is = subst P (some_same y x is) h.0
holds_at P (y ∷ xs) (suc i) x h is = holds_at P xs i x h.1 is

module _ (key : Row) where
  abbrev at : List Row → ℕ
  at ks = position_or_len (same_row key) ks

  placed_there : (ks : List Row) → at ks < length ks → placed ks key ≡ suc (at ks)
  placed_there ks lt = ap (λ b. option_map_or suc (cond b (Some (at ks)) None) 0) (lt-ltb (at ks) (length ks) lt)

  placed_nowhere : (ks : List Row) → at ks ≡ length ks → placed ks key ≡ 0
  placed_nowhere ks is = ap (λ b. option_map_or suc (cond b (Some (at ks)) None) 0) (le-ltb (at ks) (length ks) (omega (arith, is)))

  -- one that came
  pub was_placed : (ks : List Row) (p : ℕ) → placed ks key ≡ suc p → (at ks ≡ p) × (p < length ks)
  was_placed ks p is =
      by_test (nat_lt (at ks) (length ks))
      (λ yes. let lt = ltb-true (at ks) (length ks) yes in let there = placed_there ks lt in (omega (arith, is, there), omega (arith, is, there, lt)))
      (λ no. let le = ltb-false (at ks) (length ks) no in let most = at_most key ks in let none = placed_nowhere ks (omega (arith, le, most)) in absurd (omega (arith, is, none)))

  -- one that didn't
  pub not_placed : (ks : List Row) → placed ks key ≡ 0 → at ks ≡ length ks
  not_placed ks is =
      by_test (nat_lt (at ks) (length ks))
      (λ yes. let there = placed_there ks (ltb-true (at ks) (length ks) yes) in absurd (omega (arith, is, there)))
      (λ no. let le = ltb-false (at ks) (length ks) no in let most = at_most key ks in omega (arith, le, most))

  -- it comes last
  pub placed_last : (ks : List Row) → placed ks key ≡ 0 → placed (ks ++ key ∷ []) key ≡ suc (length ks)
  placed_last ks is =
      let last : at (ks ++ key ∷ []) ≡ length ks = at_last key ks (none_before key ks (not_placed ks is)) in
      let long = length-append ks (key ∷ []) in
      placed_there (ks ++ key ∷ []) (omega (arith, last, long)) ∙ ap suc last

-- and the others stay
placed_other : (key other : Row) (ks : List Row) → same_row other key ≡ false → placed (ks ++ key ∷ []) other ≡ placed ks other
placed_other key other ks isnt =
    let long = length-append ks (key ∷ []) in
    by_test (nat_lt (position_or_len (same_row other) ks) (length ks))
    (λ yes. let lt = ltb-true (position_or_len (same_row other) ks) (length ks) yes in
    let stays = at_stays other ks key lt in
    placed_there other (ks ++ key ∷ []) (omega (arith, stays, lt, long)) ∙ ap suc stays ∙ sym (placed_there other ks lt))
    (λ no. let le = ltb-false (position_or_len (same_row other) ks) (length ks) no in
    let most = at_most other ks in
    let none : position_or_len (same_row other) ks ≡ length ks = omega (arith, le, most) in
    placed_nowhere other (ks ++ key ∷ []) (at_past other ks key none isnt) ∙ sym (placed_nowhere other ks none))

module _ (key : Row) where
  others_stay : (ks all : List Row) → AllByRecursion (λ x. same_row key x ≡ false) all → map (placed ks) all ≡ map (placed (ks ++ key ∷ [])) all
  others_stay ks [] h = refl
  others_stay ks (x ∷ all) h = ap (λ n. n ∷ map (placed ks) all) (sym (placed_other key x ks (nat_list_eq_equiv.symm x key ∙ h.0))) ∙ ap (λ ns. placed (ks ++ key ∷ []) x ∷ ns) (others_stay ks all h.1)

  pub places_set : (ks all : List Row) (n : ℕ) → Apart same_row all → slice_get all n ≡ Some key → placed ks key ≡ 0 → slice_set (map (placed ks) all) n (suc (length ks)) ≡ map (placed (ks ++ key ∷ [])) all
  places_set ks [] n apart is none = absurd (none_some is)
  places_set ks (x ∷ all) zero apart is none =
      let same : x ≡ key = some_same x key is in
      ap (λ m. m ∷ map (placed ks) all) (sym (ap (placed (ks ++ key ∷ [])) same ∙ placed_last key ks none))
      ∙ ap (λ ns. placed (ks ++ key ∷ []) x ∷ ns) (others_stay ks all (subst (λ (y : Row). AllByRecursion (λ z. same_row y z ≡ false) all) same apart.0))
  places_set ks (x ∷ all) (suc n) apart is none =
      ap (λ m. m ∷ slice_set (map (placed ks) all) n (suc (length ks))) (sym (placed_other key x ks (holds_at (λ z. same_row x z ≡ false) all n key apart.0 is)))
      ∙ ap (λ ns. placed (ks ++ key ∷ []) x ∷ ns) (places_set ks all n apart.1 is none)

-- ---- what is read

pub got_map : {X Y : Type 0} (f : X → Y) (xs : List X) (n : ℕ) (x : X) → slice_get xs n ≡ Some x → slice_get (map f xs) n ≡ Some (f x)
got_map f [] n x is = absurd (none_some is)
got_map f (y ∷ xs) zero x is = ap (λ z. Some (f z)) (some_same y x is)
got_map f (y ∷ xs) (suc n) x is = got_map f xs n x is

pub mapped_read : {X Y : Type 0} (f : X → Y) (xs : List X) (x : X) (ys : List Y) (n : ℕ) (y : Y) → ys ≡ map f xs → slice_get xs n ≡ Some x → y ≡ slice_index_or ys n y → y ≡ f x
mapped_read f xs x ys n y are is read = read ∙ ap (λ zs. slice_index_or zs n y) are ∙ get_or_from_slice_get (map f xs) n (f x) y (got_map f xs n x is)

module _ (key : Row) (ks : List Row) (after : ℕ) (reported : after ≡ placed ks key) where
  came : 0 < after → (position_or_len (same_row key) ks ≡ after - 1) × (after - 1 < length ks)
  came some = let e : placed ks key ≡ suc (after - 1) = omega (arith, reported, some) in was_placed key ks (after - 1) e

  pub came_at : 0 < after → after - 1 ≡ position_or_len (same_row key) ks
  came_at some = sym (came some).0

  pub came_stays : 0 < after → ks ≡ insert_key same_row ks key
  came_stays some = let h = came some in let a = h.0 in let b = h.1 in keys_same key ks (insert_key same_row ks key) refl (λ e. omega (arith, e, a, b))

  pub comes_at : (count : ℕ) (new : List Row) → after ≡ 0 → count ≡ length new → new ≡ ks ++ key ∷ [] → count - 1 ≡ position_or_len (same_row key) ks
  comes_at count new none long pushed =
      let at_end = not_placed key ks (sym reported ∙ none) in
      let longer = ap length pushed in
      let one = length-append ks (key ∷ []) in
      omega (arith, at_end, long, longer, one)

  pub comes_last : (new : List Row) → after ≡ 0 → new ≡ ks ++ key ∷ [] → new ≡ insert_key same_row ks key
  comes_last new none pushed = keys_next key ks (insert_key same_row ks key) new refl (not_placed key ks (sym reported ∙ none)) pushed

  pub comes_renumbered : (all new : List Row) (places : List ℕ) (slots grown : List (List ℕ)) (slot : List ℕ) (n count : ℕ) → Apart same_row all → slice_get all n ≡ Some key → AreRenumbered all ks places slots
      → after ≡ 0 → count ≡ length new → new ≡ ks ++ key ∷ [] → slot ≡ largest_slots key → grown ≡ slots ++ slot ∷ [] → AreRenumbered all new (slice_set places n count) grown
  comes_renumbered all new places slots grown slot n count apart is so_far none long pushed at_slot added =
      let longer = ap length pushed in
      let one = length-append ks (key ∷ []) in
      let next : count ≡ suc (length ks) = omega (arith, long, longer, one) in
      record {
        each =
            ap (λ ns. slice_set ns n count) so_far.each ∙ ap (slice_set (map (placed ks) all) n) next
            ∙ places_set key ks all n apart is (sym reported ∙ none)
            ∙ ap (λ xs. map (placed xs) all) (sym pushed);
        known = added ∙ ap (λ ss. ss ++ slot ∷ []) so_far.known ∙ ap (λ s. map largest_slots ks ++ s ∷ []) at_slot ∙ sym (map-append largest_slots ks (key ∷ [])) ∙ ap (map largest_slots) (sym pushed);
      }

-- before any comes
pub none_renumbered : (all : List Row) → replicate (length all) 0 ≡ map (placed []) all
none_renumbered [] = refl
none_renumbered (key ∷ all) = ap (λ ns. 0 ∷ ns) (none_renumbered all)

pub same_renumbered : (all ks now : List Row) (places set : List ℕ) (slots grown : List (List ℕ)) → now ≡ ks → set ≡ places → grown ≡ slots → AreRenumbered all ks places slots → AreRenumbered all now set grown
same_renumbered all ks now places set slots grown keys_same places_same slots_same h = record {
  each = places_same ∙ h.each ∙ ap (λ xs. map (placed xs) all) (sym keys_same);
  known = slots_same ∙ h.known ∙ ap (map largest_slots) (sym keys_same);
}
