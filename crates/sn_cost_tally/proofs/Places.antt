-- The first places of rows, one row more.
use Rattle.std.proofs.Common.{◌≡◌, ℕ, zero, suc, ◌<◌, ◌≤◌, ◌+◌, List, [], ◌∷◌, ◌++◌, map, length, unwrap_or, true, false, not, cond, Result, Ok, Err, OnOk, refl, ap, sym, subst, ◌∙◌, ◌||◌, arith}
use Rattle.std.specs.List.{AllByRecursion, list_any, position_or_len}
use Rattle.std.specs.Map.{lookup}
use Rattle.std.specs.Cmp.Lexicographic.{nat_list_eq_equiv}
use Rattle.std.proofs.lemmas.List.{length-append, length-map, map-append}
use Rattle.sn_base.specs.Folds.{capped_sum}
use Rattle.sn_base.specs.Groups.{Row, folded, once, put_entry, same_row}
use Rattle.sn_base.proofs.FoldedLemmas.{folded_at, folded_push, same_row_exact}
use Rattle.sn_base.proofs.Lists.{all_append, all_weaker}
use Rattle.sn_base.proofs.OnceLemmas.{any_once}
use Rattle.sn_cost_seats.specs.Seats.{row_at, rows_at}
use Rattle.sn_cost_seats.specs.Tallies.{tallied}
use Rattle.sn_cost_tally.specs.Counts.{counted, one}
use Rattle.sn_cost_tally.specs.Firsts.{AreFirsts}
use Rattle.sn_cost_tally.specs.declared.firsts.Firsts.{Firsts}
use Rattle.sn_cost_tally.proofs.Counting.{keys_of, times_of}
use Rattle.sn_cost_tally.proofs.Folding.{zip_keys, zip_numbers}

pub on_ok : {A E : Type 0} (P Q : Type 0) (r : Result A E) → (P → Q) → OnOk r P → OnOk r Q
on_ok P Q (Ok x) f h = f h
on_ok P Q (Err e) f h = tt

-- one key more is counted
pub counted_push : (rows : List Row) (key : Row) → put_entry same_row (counted rows) key (capped_sum 64 (unwrap_or (lookup (same_row key) (counted rows)) 0) 1) ≡ counted (rows ++ key ∷ [])
counted_push rows key =
    let step : ℕ → ℕ → ℕ = capped_sum 64 in
    ap (λ (n : ℕ). put_entry same_row (counted rows) key (step n 1)) (folded_at nat_list_eq_equiv same_row_exact step 0 (map one rows) key)
    ∙ sym (folded_push nat_list_eq_equiv same_row_exact step 0 (map one rows) key 1)
    ∙ ap (folded same_row step 0) (sym (map-append one rows (key ∷ [])))

-- a row before the last stays, and the last is the one that was added
stays_at : (rows : List Row) (key : Row) (i : ℕ) → i < length rows → row_at (rows ++ key ∷ []) i ≡ row_at rows i
stays_at [] key i lt = absurd (omega (arith, lt))
stays_at (row ∷ rows) key zero lt = refl
stays_at (row ∷ rows) key (suc i) lt = stays_at rows key i (omega (arith, lt))

last_at : (rows : List Row) (key : Row) (i : ℕ) → i ≡ length rows → row_at (rows ++ key ∷ []) i ≡ key
last_at [] key zero is = refl
last_at [] key (suc i) is = absurd (omega (arith, is))
last_at (row ∷ rows) key zero is = absurd (omega (arith, is))
last_at (row ∷ rows) key (suc i) is = last_at rows key i (omega (arith, is))

pub stay_at : (rows : List Row) (key : Row) (places : List ℕ) → AllByRecursion (λ place. place < length rows) places → rows_at (rows ++ key ∷ []) places ≡ rows_at rows places
stay_at rows key [] h = refl
stay_at rows key (place ∷ places) h = ap (λ r. r ∷ rows_at (rows ++ key ∷ []) places) (stays_at rows key place h.0) ∙ ap (λ rs. row_at rows place ∷ rs) (stay_at rows key places h.1)

pub one_at : (rows : List Row) (key : Row) (places new : List ℕ) (place : ℕ) → AllByRecursion (λ p. p < length rows) places → place ≡ length rows → new ≡ places ++ place ∷ [] → rows_at (rows ++ key ∷ []) new ≡ rows_at rows places ++ key ∷ []
one_at rows key places new place h is grown =
    ap (rows_at (rows ++ key ∷ [])) grown ∙ map-append (row_at (rows ++ key ∷ [])) places (place ∷ [])
    ∙ ap (λ rs. rs ++ row_at (rows ++ key ∷ []) place ∷ []) (stay_at rows key places h)
    ∙ ap (λ r. rows_at rows places ++ r ∷ []) (last_at rows key place is)

-- places are within one row more
pub still_within : (rows : List Row) (key : Row) (places : List ℕ) → AllByRecursion (λ p. p < length rows) places → AllByRecursion (λ p. p < length (rows ++ key ∷ [])) places
still_within rows key places h =
    let long = length-append rows (key ∷ []) in
    all_weaker (λ p. p < length rows) (λ p. p < length (rows ++ key ∷ [])) (λ p lt. omega (arith, lt, long)) places h

pub last_within : (rows : List Row) (key : Row) (places : List ℕ) (place : ℕ) → place ≡ length rows → AllByRecursion (λ p. p < length rows) places → AllByRecursion (λ p. p < length (rows ++ key ∷ [])) (places ++ place ∷ [])
last_within rows key places place is h =
    let long = length-append rows (key ∷ []) in
    let last : place < length (rows ++ key ∷ []) = omega (arith, is, long) in
    all_append (λ p. p < length (rows ++ key ∷ [])) places (place ∷ []) (still_within rows key places h) (last, tt)

pub places_long : (rows keys : List Row) (places : List ℕ) → rows_at rows places ≡ keys → length places ≡ length keys
places_long rows keys places is = sym (length-map places (row_at rows)) ∙ ap length is

-- ---- first places

module _ (key : Row) where
  abbrev at : List Row → ℕ
  at rows = position_or_len (same_row key) rows

  -- one that is there stays where it is
  pub at_stays : (rows : List Row) (last : Row) → at rows < length rows → at (rows ++ last ∷ []) ≡ at rows
  at_stays [] last lt = absurd (omega (arith, lt))
  at_stays (row ∷ rows) last lt =
      (elim (same_row key row) as (λ b. cond (not b) (1 + at rows) 0 < suc (length rows) → cond (not b) (1 + at (rows ++ last ∷ [])) 0 ≡ cond (not b) (1 + at rows) 0) [
        | true ↦ (λ lt. refl)
        | false ↦ (λ lt. ap (λ n. 1 + n) (at_stays rows last (omega (arith, lt))))
      ]) lt

  -- one that isn't there is the last
  pub at_last : (rows : List Row) → list_any (same_row key) rows ≡ false → at (rows ++ key ∷ []) ≡ length rows
  at_last [] none = ap (λ b. cond (not b) 1 0) (nat_list_eq_equiv.refl key)
  at_last (row ∷ rows) none =
      (elim (same_row key row) as (λ b. (b || list_any (same_row key) rows) ≡ false → cond (not b) (1 + at (rows ++ key ∷ [])) 0 ≡ suc (length rows)) [
        | true ↦ (λ none. absurd cc)
        | false ↦ (λ none. let rest = at_last rows none in omega (arith, rest))
      ]) none

  -- nor is another one that isn't the last
  pub at_past : (rows : List Row) (last : Row) → at rows ≡ length rows → same_row key last ≡ false → at (rows ++ last ∷ []) ≡ length (rows ++ last ∷ [])
  at_past [] last is isnt = ap (λ b. cond (not b) 1 0) isnt
  at_past (row ∷ rows) last is isnt =
      (elim (same_row key row) as (λ b. cond (not b) (1 + at rows) 0 ≡ suc (length rows) → cond (not b) (1 + at (rows ++ last ∷ [])) 0 ≡ suc (length (rows ++ last ∷ []))) [
        | true ↦ (λ is. absurd cc)
        | false ↦ (λ is. let rest = at_past rows last (omega (arith, is)) isnt in omega (arith, rest))
      ]) is

  pub none_before : (rows : List Row) → at rows ≡ length rows → list_any (same_row key) rows ≡ false
  none_before [] is = refl
  none_before (row ∷ rows) is =
      (elim (same_row key row) as (λ b. cond (not b) (1 + at rows) 0 ≡ suc (length rows) → (b || list_any (same_row key) rows) ≡ false) [
        | true ↦ (λ is. absurd cc)
        | false ↦ (λ is. none_before rows (omega (arith, is)))
      ]) is

  -- one that isn't among the distinct rows is not among the rows
  pub none_among : (rows keys : List Row) → keys ≡ once same_row rows → at keys ≡ length keys → list_any (same_row key) rows ≡ false
  none_among rows keys distinct last =
      sym (any_once nat_list_eq_equiv same_row_exact key rows) ∙ ap (list_any (same_row key)) (sym distinct) ∙ none_before keys last

-- those that are there stay where they are
pub firsts_stay : (rows keys : List Row) (last : Row) (places : List ℕ) → AllByRecursion (λ p. p < length rows) places → places ≡ map (λ key. position_or_len (same_row key) rows) keys
    → places ≡ map (λ key. position_or_len (same_row key) (rows ++ last ∷ [])) keys
firsts_stay rows keys last places within is = is ∙ stay keys (subst (AllByRecursion (λ p. p < length rows)) is within)
  where
    stay : (ks : List Row) → AllByRecursion (λ p. p < length rows) (map (λ key. position_or_len (same_row key) rows) ks) → map (λ key. position_or_len (same_row key) rows) ks ≡ map (λ key. position_or_len (same_row key) (rows ++ last ∷ [])) ks
    stay [] h = refl
    stay (k ∷ ks) h =
        ap (λ n. n ∷ map (λ key. position_or_len (same_row key) rows) ks) (sym (at_stays k rows last h.0))
        ∙ ap (λ ns. position_or_len (same_row k) (rows ++ last ∷ []) ∷ ns) (stay ks h.1)

pub first_added : (rows keys found : List Row) (key : Row) (places new : List ℕ) (place : ℕ) → AllByRecursion (λ p. p < length rows) places → places ≡ map (λ k. position_or_len (same_row k) rows) keys
    → list_any (same_row key) rows ≡ false → place ≡ length rows → new ≡ places ++ place ∷ [] → keys ++ key ∷ [] ≡ found → new ≡ map (λ k. position_or_len (same_row k) (rows ++ key ∷ [])) found
first_added rows keys found key places new place within is none last grown all =
    let first : Row → ℕ = λ k. position_or_len (same_row k) (rows ++ key ∷ []) in
    grown ∙ ap (λ ns. ns ++ place ∷ []) (firsts_stay rows keys key places within is)
    ∙ ap (λ n. map first keys ++ n ∷ []) (last ∙ sym (at_last key rows none))
    ∙ sym (map-append first keys (key ∷ [])) ∙ ap (map first) all

-- ---- of all rows

-- they are the distinct rows
pub firsts_are : (rows keys : List Row) (f : Firsts) → AreFirsts rows keys f → rows_at rows f.places.items ≡ once same_row rows
firsts_are rows keys f h = h.at ∙ sym (zip_keys keys f.times.items h.long) ∙ ap (map (λ (e : Row × ℕ). e.0)) h.times ∙ keys_of rows

-- each as often as it comes
pub firsts_tallied : (rows keys : List Row) (f : Firsts) → length rows ≤ 4194304 → AreFirsts rows keys f → f.times.items ≡ tallied rows
firsts_tallied rows keys f few h = sym (zip_numbers keys f.times.items h.long) ∙ ap (map (λ (e : Row × ℕ). e.1)) h.times ∙ times_of rows few
