-- One number that is kept is the greatest over all records so far.
use Rattle.std.proofs.Common.{◌≡◌, ℕ, ◌≤◌, List, [], ◌∷◌, ◌++◌, Option, Some, None, max, map, length, take, true, refl, ap, sym, ◌∙◌, subst, arith, append-nil, append_assoc}
use Rattle.std.proofs.lemmas.List.{map-append, length-map, take-map}
use Rattle.std.proofs.lemmas.List.Sums.{fold-append}
use Rattle.sn_windows.specs.Windows.{offset, greatest, number_of, numbered_after, numbered, record_at}
use Rattle.sn_windows.specs.Numbering.{Numbering, begun, next_first, next_number, stepped, after, numbered_from, is_fresh}
use Rattle.sn_windows.proofs.RunLemmas.{Rises, AtLeast}

first_of : List ℕ → Option ℕ
first_of [] = None
first_of (t ∷ ts) = Some t

-- the state after these times
record Stands (s : Numbering) (times : List ℕ) : Type 0 where
  first : s.first ≡ first_of times
  number : s.number ≡ number_of s.window times

number_push : (window : ℕ) (t : ℕ) (ts : List ℕ) (u : ℕ) → number_of window (t ∷ (ts ++ u ∷ [])) ≡ max (number_of window (t ∷ ts)) (offset window t u)
number_push window t ts u =
    ap greatest (map-append (offset window t) (t ∷ ts) (u ∷ [])) ∙ fold-append max 0 (map (offset window t) (t ∷ ts)) (offset window t u ∷ [])

stands_number : (s : Numbering) (times : List ℕ) (u : ℕ) → Stands s times → next_number s u ≡ number_of s.window (times ++ u ∷ [])
unfolding first_of
stands_number s [] u h = rw (h.first, h.number) refl
stands_number s (t ∷ ts) u h = rw (h.first, h.number) (sym (number_push s.window t ts u))

stands_first : (s : Numbering) (times : List ℕ) (u : ℕ) → Stands s times → Some (next_first s u) ≡ first_of (times ++ u ∷ [])
unfolding first_of
stands_first s [] u h = rw h.first refl
stands_first s (t ∷ ts) u h = rw h.first refl

stands_step : (s : Numbering) (times : List ℕ) (u : ℕ) → Stands s times → Stands (stepped s u) (times ++ u ∷ [])
stands_step s times u h = record { first = stands_first s times u h; number = stands_number s times u h }

window_after : (s : Numbering) (times : List ℕ) → (after s times).window ≡ s.window
window_after s [] = refl
window_after s (t ∷ ts) = window_after (stepped s t) ts

stands_after : (s : Numbering) (before times : List ℕ) → Stands s before → Stands (after s times) (before ++ times)
stands_after s before [] h = subst (λ (ts : List ℕ). Stands s ts) (sym (append-nil before)) h
stands_after s before (t ∷ ts) h = subst (λ (all : List ℕ). Stands (after (stepped s t) ts) all) (append_assoc before (t ∷ []) ts) (stands_after (stepped s t) (before ++ t ∷ []) ts (stands_step s before t h))

module _ (window : ℕ) (times : List ℕ) where
  stands_begun : Stands (after (begun window) times) times
  unfolding first_of
  stands_begun = stands_after (begun window) [] times (record { first = refl; number = refl })

  -- the number that is kept is the greatest so far
  pub number_kept : (after (begun window) times).number ≡ number_of window times
  number_kept = stands_begun.number ∙ ap (λ w. number_of w times) (window_after (begun window) times)

  -- and the next one's is the greatest over it and those before
  pub number_after : (time : ℕ) → next_number (after (begun window) times) time ≡ number_of window (times ++ time ∷ [])
  number_after time = stands_number (after (begun window) times) times time stands_begun ∙ ap (λ w. number_of w (times ++ time ∷ [])) (window_after (begun window) times)

module _ {X : Type 0} (time : X → ℕ) where
  after_is : (s : Numbering) (before : List X) → Stands s (map time before) → (xs : List X) → numbered_from time s xs ≡ numbered_after time s.window before xs
  after_is s before h [] = refl
  after_is s before h (x ∷ xs) =
      let e : map time (before ++ x ∷ []) ≡ map time before ++ time x ∷ [] = map-append time before (x ∷ []) in
      let next : Stands (stepped s (time x)) (map time (before ++ x ∷ [])) = subst (λ (ts : List ℕ). Stands (stepped s (time x)) ts) (sym e) (stands_step s (map time before) (time x) h) in
      let number : next_number s (time x) ≡ number_of s.window (map time (before ++ x ∷ [])) = stands_number s (map time before) (time x) h ∙ ap (number_of s.window) (sym e) in
      rw (after_is (stepped s (time x)) (before ++ x ∷ []) next xs, number) refl

  -- from the first record on
  pub numbered_is : (window : ℕ) (xs : List X) → numbered_from time (begun window) xs ≡ numbered time window xs
  unfolding first_of
  numbered_is window xs = after_is (begun window) [] (record { first = refl; number = refl }) xs

  later : (n m : ℕ) → n ≤ m → (ps : List (ℕ × X)) → AtLeast m ps → AtLeast n ps
  later n m le [] h = tt
  later n m le (p ∷ ps) h = (omega (arith, h.0), later n m le ps h.1)

  pub numbers_stay : (s : Numbering) (xs : List X) → AtLeast s.number (numbered_from time s xs)
  numbers_stay s [] = tt
  numbers_stay s (x ∷ xs) = (omega arith, later s.number (next_number s (time x)) (omega arith) (numbered_from time (stepped s (time x)) xs) (numbers_stay (stepped s (time x)) xs))

  pub numbers_rise : (s : Numbering) (xs : List X) → Rises (numbered_from time s xs)
  numbers_rise s [] = tt
  numbers_rise s (x ∷ xs) = (numbers_stay (stepped s (time x)) xs, numbers_rise (stepped s (time x)) xs)

  pub records_are : (s : Numbering) (xs : List X) → map record_at (numbered_from time s xs) ≡ xs
  records_are s [] = refl
  records_are s (x ∷ xs) = ap (λ ys. x ∷ ys) (records_are (stepped s (time x)) xs)

  pub as_many : (s : Numbering) (xs : List X) → length (numbered_from time s xs) ≡ length xs
  as_many s xs = sym (length-map (numbered_from time s xs) record_at) ∙ ap length (records_are s xs)

  -- the first records of those that follow
  pub first_records : (s : Numbering) (xs : List X) (k : ℕ) → map record_at (take k (numbered_from time s xs)) ≡ take k xs
  first_records s xs k = sym (take-map record_at k (numbered_from time s xs)) ∙ ap (take k) (records_are s xs)

  pub fresh_begun : (window : ℕ) (xs : List X) → is_fresh time (begun window) xs ≡ true
  fresh_begun window [] = refl
  fresh_begun window (x ∷ xs) = refl

  pub none_left : (s : Numbering) (xs : List X) → length xs ≡ 0 → numbered_from time s xs ≡ []
  none_left s [] e = refl
  none_left s (x ∷ xs) e = absurd (omega arith)
