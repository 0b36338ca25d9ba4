-- The numbers of records, one after another.
use Rattle.std.proofs.Common.{◌≡◌, ℕ, ◌+◌, ◌≤◌, List, [], ◌∷◌, ◌++◌, map, length, refl, ap, sym, ◌∙◌, arith}
use Rattle.std.specs.Prelude.{is_some, ◌&&◌, ◌==◌}
use Rattle.std.proofs.lemmas.List.{map-append, length-map}
use Rattle.sn_base.proofs.Lists.{by_test}
use Rattle.sn_windows.specs.Windows.{number_at, numbered}
use Rattle.sn_windows.specs.Numbering.{Numbering, begun, next_number, next_count, stepped, after, numbered_from}
use Rattle.sn_windows.proofs.NumberLemmas.{numbered_is, as_many}

pub after_push : (s : Numbering) (times : List ℕ) (t : ℕ) → after s (times ++ t ∷ []) ≡ stepped (after s times) t
after_push s [] t = refl
after_push s (u ∷ us) t = after_push (stepped s u) us t

-- no window has more records than there are
next_within : (s : Numbering) (t : ℕ) → next_count s t ≤ s.count
next_within s t = by_test (is_some s.first && (next_number s t == s.number)) (λ is. rw is (omega arith)) (λ isnt. rw isnt (omega arith))

pub count_within : (s : Numbering) (times : List ℕ) → (after s times).count ≤ s.count + length times
count_within s [] = omega arith
count_within s (t ∷ ts) = let rest = count_within (stepped s t) ts in let one = next_within s t in omega arith

pub next_few : (window : ℕ) (times : List ℕ) (t : ℕ) → next_count (after (begun window) times) t ≤ length times
next_few window times t = let all = count_within (begun window) times in let one = next_within (after (begun window) times) t in omega arith

module _ {X : Type 0} (time : X → ℕ) where
  pub numbered_push : (s : Numbering) (xs : List X) (x : X) → numbered_from time s (xs ++ x ∷ []) ≡ numbered_from time s xs ++ (next_number (after s (map time xs)) (time x), x) ∷ []
  numbered_push s [] x = refl
  numbered_push s (y ∷ ys) x = ap (λ rest. (next_number s (time y), y) ∷ rest) (numbered_push (stepped s (time y)) ys x)

  -- the numbers, one record more
  pub numbers_push : (s : Numbering) (xs : List X) (x : X) → map number_at (numbered_from time s (xs ++ x ∷ [])) ≡ map number_at (numbered_from time s xs) ++ next_number (after s (map time xs)) (time x) ∷ []
  numbers_push s xs x = ap (map number_at) (numbered_push s xs x) ∙ map-append number_at (numbered_from time s xs) ((next_number (after s (map time xs)) (time x), x) ∷ [])

  pub as_many_numbers : (window : ℕ) (xs : List X) → length (map number_at (numbered time window xs)) ≡ length xs
  as_many_numbers window xs = length-map (numbered time window xs) number_at ∙ ap length (sym (numbered_is time window xs)) ∙ as_many time (begun window) xs
