-- The first item that is dropped.
use Rattle.std.proofs.Common.{◌≡◌, ℕ, zero, suc, ◌-◌, ◌<◌, length-drop, List, [], ◌∷◌, ◌++◌, map, filter, take, drop, length, position, get_or, not, Bool, true, false, cond, None, Some, refl, ap, sym, ◌∙◌, arith}
use Rattle.std.specs.List.{find}
use Rattle.std.proofs.lemmas.List.{take_all}
use Rattle.std.proofs.lemmas.List.Quantifiers.{position-Some}
use Rattle.sn_base.proofs.Lists.{by_test}
use Rattle.sn_engine.proofs.Firsts.{found_none}

pub rest_is : {X : Type 0} (xs : List X) (n : ℕ) → take (length xs - n) (drop n xs) ≡ drop n xs
rest_is xs n = let long = length-drop n xs in take_all (length xs - n) (drop n xs) (omega (arith, long))

module _ {X Y : Type 0} (f : X → Y) (keeps : Y → Bool) where
  abbrev drops : X → Bool
  drops x = not (keeps (f x))

  none_some : {x : X} → Some x ≡ None → ⊥
  none_some e = cc

  not_false : (b : Bool) → not b ≡ false → b ≡ true
  not_false true e = refl
  not_false false e = cc

  not_true : (b : Bool) → not b ≡ true → b ≡ false
  not_true true e = cc
  not_true false e = refl

  kept_here : (x : X) (xs : List X) → keeps (f x) ≡ true → filter keeps (map f (x ∷ xs)) ≡ f x ∷ filter keeps (map f xs)
  kept_here x xs is = ap (λ b. cond b (f x ∷ filter keeps (map f xs)) (filter keeps (map f xs))) is

  dropped_here : (x : X) (xs : List X) → keeps (f x) ≡ false → filter keeps (map f (x ∷ xs)) ≡ filter keeps (map f xs)
  dropped_here x xs isnt = ap (λ b. cond b (f x ∷ filter keeps (map f xs)) (filter keeps (map f xs))) isnt

  none_found : (xs : List X) → find drops xs ≡ None → map f xs ≡ filter keeps (map f xs)
  none_found [] none = refl
  none_found (x ∷ xs) none =
      by_test (drops x)
      (λ is. absurd (none_some (sym (ap (λ b. cond b (Some x) (find drops xs)) is) ∙ none)))
      (λ isnt. ap (λ (ys : List Y). f x ∷ ys) (none_found xs (sym (ap (λ b. cond b (Some x) (find drops xs)) isnt) ∙ none))
      ∙ sym (kept_here x xs (not_false (keeps (f x)) isnt)))

  -- where none is dropped, all are left
  pub none_drops : (xs : List X) → position drops xs ≡ None → map f xs ≡ filter keeps (map f xs)
  none_drops xs none = none_found xs (found_none drops xs none)

  dropped_from : (xs : List X) (i : ℕ) (d : X) → i < length xs → drops (get_or xs i d) ≡ true → ((k : ℕ) → k < i → drops (get_or xs k d) ≡ false)
      → map f (take i xs) ++ filter keeps (map f (drop (suc i) xs)) ≡ filter keeps (map f xs)
  dropped_from [] i d within here before = absurd (omega (arith, within))
  dropped_from (x ∷ xs) zero d within here before = sym (dropped_here x xs (not_true (keeps (f x)) here))
  dropped_from (x ∷ xs) (suc i) d within here before =
      ap (λ (ys : List Y). f x ∷ ys) (dropped_from xs i d (omega (arith, within)) here (λ k less. before (suc k) (omega (arith, less))))
      ∙ sym (kept_here x xs (not_false (keeps (f x)) (before 0 (omega arith))))

  -- those before the first that is dropped are left, and of those after it the ones that are
  pub first_drops : (xs : List X) (i : ℕ) → position drops xs ≡ Some i → map f (take i xs) ++ filter keeps (map f (drop (suc i) xs)) ≡ filter keeps (map f xs)
  first_drops [] i first = cc
  first_drops (x ∷ xs) i first = let at = position-Some drops (x ∷ xs) i x first in dropped_from (x ∷ xs) i x at.0 at.1 at.2
