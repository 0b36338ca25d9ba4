-- One key more among numbered ones, with what is folded beside them.
use Rattle.std.proofs.Common.{◌≡◌, ℕ, zero, suc, ◌+◌, ◌<◌, ◌≤◌, List, [], ◌∷◌, ◌++◌, map, length, slice_get, slice_index, slice_index_or, slice_set, nat_lt, true, false, not, ◌||◌, cond, Some, unwrap_or, refl, ap, sym, ◌∙◌, arith}
use Rattle.std.specs.List.{list_any, position_or_len}
use Rattle.std.specs.Map.{lookup}
use Rattle.std.proofs.lemmas.Bool.{le-ltb, lt-ltb, ltb-false, ltb-true}
use Rattle.indexmap.specs.IndexSet.{insert_key}
use Rattle.sn_base.specs.Groups.{Row, put_entry, same_row}
use Rattle.sn_base.proofs.Lists.{by_test, none_some, some_same}
use Rattle.sn_cost_tally.specs.Numbered.{folded_into, zipped}

next_of : (n : ℕ) → 1 + n ≡ suc n
next_of n = omega arith

lt_next : (p m : ℕ) → nat_lt (suc p) (suc m) ≡ nat_lt p m
lt_next p m =
    by_test (nat_lt p m)
    (λ is. let lt = ltb-true p m is in lt-ltb (suc p) (suc m) (omega (arith, lt)) ∙ sym is)
    (λ isnt. let le = ltb-false p m isnt in le-ltb (suc p) (suc m) (omega (arith, le)) ∙ sym isnt)

module _ (key : Row) where
  abbrev at : List Row → ℕ
  at ks = position_or_len (same_row key) ks

  -- the keys with this one
  abbrev more : List Row → List Row
  more [] = key ∷ []
  more (k ∷ ks) = cond (same_row key k) (k ∷ ks) (k ∷ more ks)

  inserted : (ks : List Row) → insert_key same_row ks key ≡ more ks
  inserted [] = refl
  inserted (k ∷ ks) =
      elim (same_row key k) as (λ b. cond (b || list_any (same_row key) ks) (k ∷ ks) (k ∷ (ks ++ key ∷ [])) ≡ cond b (k ∷ ks) (k ∷ more ks)) [
        | true ↦ refl
        | false ↦
            ((elim (list_any (same_row key) ks) as (λ a. cond a (k ∷ ks) (k ∷ (ks ++ key ∷ [])) ≡ k ∷ cond a ks (ks ++ key ∷ [])) [ true ↦ refl | false ↦ refl ])
            ∙ ap (λ xs. k ∷ xs) (inserted ks))
      ]

  -- it is new exactly where its number is the next one
  new_last : (ks : List Row) → at ks ≡ length ks → more ks ≡ ks ++ key ∷ []
  new_last [] is = refl
  new_last (k ∷ ks) is =
      (elim (same_row key k) as (λ b. cond (not b) (1 + at ks) 0 ≡ suc (length ks) → cond b (k ∷ ks) (k ∷ more ks) ≡ k ∷ (ks ++ key ∷ [])) [
        | true ↦ (λ is. absurd cc)
        | false ↦ (λ is. ap (λ xs. k ∷ xs) (new_last ks (omega (arith, is))))
      ]) is

  -- and otherwise it is there
  pub at_most : (ks : List Row) → at ks ≤ length ks
  at_most [] = omega arith
  at_most (k ∷ ks) =
      let rest = at_most ks in
      elim (same_row key k) as (λ b. cond (not b) (1 + at ks) 0 ≤ suc (length ks)) [ true ↦ omega arith | false ↦ omega (arith, rest) ]

  old_stays : (ks : List Row) → at ks < length ks → more ks ≡ ks
  old_stays [] lt = absurd (omega arith)
  old_stays (k ∷ ks) lt =
      (elim (same_row key k) as (λ b. cond (not b) (1 + at ks) 0 < suc (length ks) → cond b (k ∷ ks) (k ∷ more ks) ≡ k ∷ ks) [
        | true ↦ (λ lt. refl)
        | false ↦ (λ lt. ap (λ xs. k ∷ xs) (old_stays ks (omega (arith, lt))))
      ]) lt

  -- the keys, one more or none
  pub keys_next : (ks found now : List Row) → found ≡ insert_key same_row ks key → at ks ≡ length ks → now ≡ ks ++ key ∷ [] → now ≡ found
  keys_next ks found now is last grown = grown ∙ sym (new_last ks last) ∙ sym (inserted ks) ∙ sym is

  pub keys_same : (ks found : List Row) → found ≡ insert_key same_row ks key → ¬ (at ks ≡ length ks) → ks ≡ found
  keys_same ks found is other =
      let most = at_most ks in
      let lt : at ks < length ks = omega (arith, most, other) in
      sym (old_stays ks lt) ∙ sym (inserted ks) ∙ sym is

  module _ (step : ℕ → ℕ → ℕ) (unit v : ℕ) where
    -- the numbers with this value
    abbrev next : List Row → List ℕ → List ℕ
    next [] ns = ns ++ step unit v ∷ []
    next (k ∷ ks) [] = step unit v ∷ []
    next (k ∷ ks) (n ∷ ns) = cond (same_row key k) (step n v ∷ ns) (n ∷ next ks ns)

    later : (n : ℕ) (ns : List ℕ) (p : ℕ) → folded_into step unit (n ∷ ns) (1 + p) v ≡ n ∷ folded_into step unit ns p v
    later n ns p =
        ap (λ m. folded_into step unit (n ∷ ns) m v) (next_of p)
        ∙ ap (λ b. cond b (n ∷ slice_set ns p (step (slice_index_or ns p unit) v)) (n ∷ (ns ++ step unit v ∷ []))) (lt_next p (length ns))
        ∙ (elim (nat_lt p (length ns)) as (λ b. cond b (n ∷ slice_set ns p (step (slice_index_or ns p unit) v)) (n ∷ (ns ++ step unit v ∷ [])) ≡ n ∷ cond b (slice_set ns p (step (slice_index_or ns p unit) v)) (ns ++ step unit v ∷ [])) [ true ↦ refl | false ↦ refl ])

    folded_next : (ks : List Row) (ns : List ℕ) → length ns ≡ length ks → folded_into step unit ns (at ks) v ≡ next ks ns
    folded_next [] [] long = refl
    folded_next [] (n ∷ ns) long = absurd cc
    folded_next (k ∷ ks) [] long = absurd cc
    folded_next (k ∷ ks) (n ∷ ns) long =
        elim (same_row key k) as (λ b. folded_into step unit (n ∷ ns) (cond (not b) (1 + at ks) 0) v ≡ cond b (step n v ∷ ns) (n ∷ next ks ns)) [
          | true ↦ ap (λ b. cond b (step n v ∷ ns) ((n ∷ ns) ++ step unit v ∷ [])) (lt-ltb 0 (suc (length ns)) (omega arith))
          | false ↦ (later n ns (at ks) ∙ ap (λ xs. n ∷ xs) (folded_next ks ns (omega (arith, long))))
        ]

    zip_next : (ks : List Row) (ns : List ℕ) → length ns ≡ length ks → zipped (more ks) (next ks ns) ≡ put_entry same_row (zipped ks ns) key (step (unwrap_or (lookup (same_row key) (zipped ks ns)) unit) v)
    zip_next [] [] long = refl
    zip_next [] (n ∷ ns) long = absurd cc
    zip_next (k ∷ ks) [] long = absurd cc
    zip_next (k ∷ ks) (n ∷ ns) long =
        elim (same_row key k) as (λ b. zipped (cond b (k ∷ ks) (k ∷ more ks)) (cond b (step n v ∷ ns) (n ∷ next ks ns))
        ≡ cond b ((k, step (unwrap_or (cond b (Some n) (lookup (same_row key) (zipped ks ns))) unit) v) ∷ zipped ks ns) ((k, n) ∷ put_entry same_row (zipped ks ns) key (step (unwrap_or (cond b (Some n) (lookup (same_row key) (zipped ks ns))) unit) v))) [
          | true ↦ refl
          | false ↦ ap (λ es. (k, n) ∷ es) (zip_next ks ns (omega (arith, long)))
        ]

    long_next : (ks : List Row) (ns : List ℕ) → length ns ≡ length ks → length (next ks ns) ≡ length (more ks)
    long_next [] [] long = refl
    long_next [] (n ∷ ns) long = absurd cc
    long_next (k ∷ ks) [] long = absurd cc
    long_next (k ∷ ks) (n ∷ ns) long =
        elim (same_row key k) as (λ b. length (cond b (step n v ∷ ns) (n ∷ next ks ns)) ≡ length (cond b (k ∷ ks) (k ∷ more ks))) [ true ↦ long | false ↦ ap suc (long_next ks ns (omega (arith, long))) ]

    -- a value more
    pub value_folded : (ks found : List Row) (ns new : List ℕ) (place : ℕ) → length ns ≡ length ks → found ≡ insert_key same_row ks key → place ≡ at ks → new ≡ folded_into step unit ns place v
        → zipped found new ≡ put_entry same_row (zipped ks ns) key (step (unwrap_or (lookup (same_row key) (zipped ks ns)) unit) v)
    value_folded ks found ns new place long grown is now =
        ap (λ xs. zipped xs new) (grown ∙ inserted ks) ∙ ap (zipped (more ks)) (now ∙ ap (λ m. folded_into step unit ns m v) is ∙ folded_next ks ns long) ∙ zip_next ks ns long

    pub folded_long : (ks found : List Row) (ns new : List ℕ) (place : ℕ) → length ns ≡ length ks → found ≡ insert_key same_row ks key → place ≡ at ks → new ≡ folded_into step unit ns place v → length new ≡ length found
    folded_long ks found ns new place long grown is now =
        ap length (now ∙ ap (λ m. folded_into step unit ns m v) is ∙ folded_next ks ns long) ∙ long_next ks ns long ∙ sym (ap length (grown ∙ inserted ks))

  -- what is folded at the key so far
  pub so_far_at : (unit : ℕ) (ks : List Row) (ns : List ℕ) → length ns ≡ length ks → unwrap_or (lookup (same_row key) (zipped ks ns)) unit ≡ slice_index_or ns (at ks) unit
  so_far_at unit [] [] long = refl
  so_far_at unit [] (n ∷ ns) long = absurd cc
  so_far_at unit (k ∷ ks) [] long = absurd cc
  so_far_at unit (k ∷ ks) (n ∷ ns) long =
      elim (same_row key k) as (λ b. unwrap_or (cond b (Some n) (lookup (same_row key) (zipped ks ns))) unit ≡ slice_index_or (n ∷ ns) (cond (not b) (1 + at ks) 0) unit) [
        | true ↦ refl
        | false ↦ (so_far_at unit ks ns (omega (arith, long)) ∙ sym (ap (λ m. slice_index_or (n ∷ ns) m unit) (next_of (at ks))))
      ]

-- ---- what a group has

-- keys beside numbers are these keys, and these numbers
pub zip_keys : (ks : List Row) (ns : List ℕ) → length ns ≡ length ks → map (λ (e : Row × ℕ). e.0) (zipped ks ns) ≡ ks
zip_keys [] [] long = refl
zip_keys [] (n ∷ ns) long = absurd cc
zip_keys (k ∷ ks) [] long = absurd cc
zip_keys (k ∷ ks) (n ∷ ns) long = ap (λ xs. k ∷ xs) (zip_keys ks ns (omega (arith, long)))

pub zip_numbers : (ks : List Row) (ns : List ℕ) → length ns ≡ length ks → map (λ (e : Row × ℕ). e.1) (zipped ks ns) ≡ ns
zip_numbers [] [] long = refl
zip_numbers [] (n ∷ ns) long = absurd cc
zip_numbers (k ∷ ks) [] long = absurd cc
zip_numbers (k ∷ ks) (n ∷ ns) long = ap (λ xs. n ∷ xs) (zip_numbers ks ns (omega (arith, long)))

pub zip_at : (ks : List Row) (ns : List ℕ) (i : ℕ) (k : Row) (n : ℕ) → slice_get ks i ≡ Some k → slice_get ns i ≡ Some n → slice_get (zipped ks ns) i ≡ Some (k, n)
zip_at [] ns i k n a b = absurd (none_some a)
zip_at (x ∷ ks) [] i k n a b = absurd (none_some b)
zip_at (x ∷ ks) (m ∷ ns) zero k n a b = ap (λ (y : Row). Some (y, m)) (some_same x k a) ∙ ap (λ (y : ℕ). Some (k, y)) (some_same m n b)
zip_at (x ∷ ks) (m ∷ ns) (suc i) k n a b = zip_at ks ns i k n a b

pub zip_long : (ks : List Row) (ns : List ℕ) → length ns ≡ length ks → length (zipped ks ns) ≡ length ks
zip_long [] [] long = refl
zip_long [] (n ∷ ns) long = absurd cc
zip_long (k ∷ ks) [] long = absurd cc
zip_long (k ∷ ks) (n ∷ ns) long = ap suc (zip_long ks ns (omega (arith, long)))

pub number_at : (ns : List ℕ) (i : ℕ) → i < length ns → slice_get ns i ≡ Some (slice_index ns i)
number_at [] i lt = absurd (omega (arith, lt))
number_at (n ∷ ns) zero lt = refl
number_at (n ∷ ns) (suc i) lt = number_at ns i (omega (arith, lt))
