use Rattle.std.proofs.Common.{is_some, ◌||◌, ◌≡◌, ℕ, zero, suc, ◌<◌, ◌≤◌, List, [], ◌∷◌, length, map, Bool, true, false, cond, None, Some, get_or, set, refl, ap, sym, ◌∙◌, arith}
use Rattle.std.specs.List.{position, position_or_len, list_any}
use Rattle.std.proofs.lemmas.List.Quantifiers.{position-Some}
use Rattle.std.proofs.lemmas.List.Sums.{fails_before_first}
use Rattle.std.proofs.lemmas.Bool.{false≢true, ltb-false}
use Rattle.std.proofs.lemmas.List.Folds.{Any-from_list_any}
use Rattle.sn_base.specs.Changed.{with_first}

here : {X : Type 0} (test : X → Bool) (change : X → X) (x : X) (xs : List X) → test x ≡ true → with_first test change (x ∷ xs) ≡ change x ∷ xs
here test change x xs passes = ap (λ b. cond b (change x ∷ xs) (x ∷ with_first test change xs)) passes

later : {X : Type 0} (test : X → Bool) (change : X → X) (x : X) (xs : List X) → test x ≡ false → with_first test change (x ∷ xs) ≡ x ∷ with_first test change xs
later test change x xs fails = ap (λ b. cond b (change x ∷ xs) (x ∷ with_first test change xs)) fails

set_from : {X : Type 0} (test : X → Bool) (change : X → X) (xs : List X) (i : ℕ) (d y : X) → i < length xs → test (get_or xs i d) ≡ true → ((k : ℕ) → k < i → test (get_or xs k d) ≡ false) → y ≡ change (get_or xs i d) → set xs i y ≡ with_first test change xs
set_from test change [] i d y within passes before same = absurd (omega arith)
set_from test change (x ∷ xs) zero d y within passes before same = ap (λ z. z ∷ xs) same ∙ sym (here test change x xs passes)
set_from test change (x ∷ xs) (suc i) d y within passes before same =
    ap (λ zs. x ∷ zs) (set_from test change xs i d y (omega arith) passes (λ k less. before (suc k) (omega arith)) same)
    ∙ sym (later test change x xs (before 0 (omega arith)))

-- a write at the first place that passes
pub set_first : {X : Type 0} (test : X → Bool) (change : X → X) (xs : List X) (i : ℕ) (d y : X) → position test xs ≡ Some i → y ≡ change (get_or xs i d) → set xs i y ≡ with_first test change xs
set_first test change xs i d y first same =
    let at = position-Some test xs i d first in
    set_from test change xs i d y at.0 at.1 at.2 same

none_passes : {X : Type 0} (test : X → Bool) (change : X → X) (xs : List X) → ((k : ℕ) (d : X) → k < length xs → test (get_or xs k d) ≡ false) → with_first test change xs ≡ xs
none_passes test change [] none = refl
none_passes test change (x ∷ xs) none =
    later test change x xs (none 0 x (omega arith))
    ∙ ap (λ zs. x ∷ zs) (none_passes test change xs (λ k d less. none (suc k) d (omega arith)))

pub not_found : (b : Bool) (i : ℕ) → cond b (Some i) None ≡ None → b ≡ false
not_found true i e = cc
not_found false i e = refl

-- where no item passes, the list stays
pub absent_stays : {X : Type 0} (test : X → Bool) (change : X → X) (xs : List X) → position test xs ≡ None → with_first test change xs ≡ xs
absent_stays test change xs e =
    let past : length xs ≤ position_or_len test xs = ltb-false (position_or_len test xs) (length xs) (not_found _ (position_or_len test xs) e) in
    none_passes test change xs (λ k d less. fails_before_first test xs k d (omega arith))

-- the change is seen through a map that keeps the test and carries the change
pub map-with_first : {X Y : Type 0} (f : X → Y) (test : X → Bool) (change : X → X) (seen : Y → Bool) (shown : Y → Y) (xs : List X) → ((x : X) → test x ≡ seen (f x)) → ((x : X) → f (change x) ≡ shown (f x)) → map f (with_first test change xs) ≡ with_first seen shown (map f xs)
map-with_first f test change seen shown [] same carried = refl
map-with_first f test change seen shown (x ∷ xs) same carried =
    elim (test x) as (λ b. test x ≡ b → map f (cond b (change x ∷ xs) (x ∷ with_first test change xs)) ≡ with_first seen shown (map f (x ∷ xs))) [
      | true ↦ λ passes. ap (λ y. y ∷ map f xs) (carried x) ∙ sym (here seen shown (f x) (map f xs) (sym (same x) ∙ passes))
      | false ↦ λ fails. ap (λ ys. f x ∷ ys) (map-with_first f test change seen shown xs same carried) ∙ sym (later seen shown (f x) (map f xs) (sym (same x) ∙ fails))
    ] refl

-- a change that isn't seen
pub map-with_first_unseen : {X Y : Type 0} (f : X → Y) (test : X → Bool) (change : X → X) (xs : List X) → ((x : X) → f (change x) ≡ f x) → map f (with_first test change xs) ≡ map f xs
map-with_first_unseen f test change [] unseen = refl
map-with_first_unseen f test change (x ∷ xs) unseen =
    elim (test x) as (λ b. map f (cond b (change x ∷ xs) (x ∷ with_first test change xs)) ≡ f x ∷ map f xs) [
      | true ↦ ap (λ y. y ∷ map f xs) (unseen x)
      | false ↦ ap (λ ys. f x ∷ ys) (map-with_first_unseen f test change xs unseen)
    ]

any_at : {X : Type 0} (test : X → Bool) (xs : List X) (i : ℕ) (d : X) → i < length xs → test (get_or xs i d) ≡ true → list_any test xs ≡ true
any_at test [] i d within passes = absurd (omega arith)
any_at test (x ∷ xs) zero d within passes = ap (λ b. b || list_any test xs) passes
any_at test (x ∷ xs) (suc i) d within passes =
    ap (λ b. test x || b) (any_at test xs i d (omega arith) passes) ∙ elim (test x) as (λ b. (b || true) ≡ true) [ true ↦ refl | false ↦ refl ]

any_of_place : {X : Type 0} (test : X → Bool) (xs : List X) (i : ℕ) → position test xs ≡ Some i → list_any test xs ≡ true
any_of_place test [] i e = cc
any_of_place test (x ∷ xs) i e = let at = position-Some test (x ∷ xs) i x e in any_at test (x ∷ xs) i x at.0 at.1

none_of_none : {X : Type 0} (test : X → Bool) (xs : List X) → position test xs ≡ None → list_any test xs ≡ false
none_of_none test xs e =
    elim (list_any test xs) as (λ b. list_any test xs ≡ b → b ≡ false) [
      | true ↦ λ some.
          let any = Any-from_list_any test xs some in
          let past : length xs ≤ position_or_len test xs = ltb-false (position_or_len test xs) (length xs) (not_found _ (position_or_len test xs) e) in
          absurd (false≢true (sym (fails_before_first test xs any.0 any.1 (omega (arith, any.2))) ∙ (ap test any.3 ∙ any.4)))
      | false ↦ λ _. refl
    ] refl

-- a first place is found exactly where some item passes
pub position_any : {X : Type 0} (test : X → Bool) (xs : List X) → is_some (position test xs) ≡ list_any test xs
position_any test xs =
    elim (position test xs) as (λ o. position test xs ≡ o → is_some o ≡ list_any test xs) [
      | Some i ↦ λ e. sym (any_of_place test xs i e)
      | None ↦ λ e. sym (none_of_none test xs e)
    ] refl
