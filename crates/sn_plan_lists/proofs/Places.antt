-- The place of an element in a list where none stands twice.
use Rattle.std.proofs.Common.{◌≡◌, ℕ, zero, suc, ◌+◌, ◌≤◌, ◌<◌, List, [], ◌∷◌, ◌++◌, map, length, Bool, true, false, not, refl, ap, sym, ◌∙◌, subst, arith, inl, inr}
use Rattle.std.specs.Prelude.{◌⊎◌, slice_get, unwrap_or, cond}
use Rattle.std.specs.List.{AllByRecursion, flat_map, range_with_len, position_or_len}
use Rattle.std.proofs.Math.Nat.{eq-or-lt_of_le}
use Rattle.sn_tree_space.specs.Space.{IsOneOf}
use Rattle.sn_tree_space.proofs.Reading.{of_range}

-- ---- elements

pub in_front : {A : Type 0} (x : A) (xs ys : List A) → IsOneOf x xs → IsOneOf x (xs ++ ys)
in_front x [] ys i = absurd i
in_front x (z ∷ xs) ys (inl e) = inl e
in_front x (z ∷ xs) ys (inr i) = inr (in_front x xs ys i)

pub in_back : {A : Type 0} (x : A) (xs ys : List A) → IsOneOf x ys → IsOneOf x (xs ++ ys)
in_back x [] ys i = i
in_back x (z ∷ xs) ys i = inr (in_back x xs ys i)

pub of_two : {A : Type 0} (x : A) (xs ys : List A) → IsOneOf x (xs ++ ys) → IsOneOf x xs ⊎ IsOneOf x ys
of_two x [] ys i = inr i
of_two x (z ∷ xs) ys (inl e) = inl (inl e)
of_two x (z ∷ xs) ys (inr i) = elim (of_two x xs ys i) [ inl k ↦ inl (inr k) | inr k ↦ inr k ]

pub in_map : {A B : Type 0} (f : A → B) (x : A) (xs : List A) → IsOneOf x xs → IsOneOf (f x) (map f xs)
in_map f x [] i = absurd i
in_map f x (z ∷ xs) (inl e) = inl (ap f e)
in_map f x (z ∷ xs) (inr i) = inr (in_map f x xs i)

pub of_map : {A B : Type 0} (f : A → B) (y : B) (xs : List A) → IsOneOf y (map f xs) → (x : A) × (y ≡ f x) × IsOneOf x xs
of_map f y [] i = absurd i
of_map f y (z ∷ xs) (inl e) = (z, e, inl refl)
of_map f y (z ∷ xs) (inr i) = let k = of_map f y xs i in (k.0, k.1, inr k.2)

pub in_flat : {A B : Type 0} (f : A → List B) (x : A) (y : B) (xs : List A) → IsOneOf x xs → IsOneOf y (f x) → IsOneOf y (flat_map f xs)
in_flat f x y [] i h = absurd i
in_flat f x y (z ∷ xs) (inl e) h = in_front y (f z) (flat_map f xs) (subst (λ w. IsOneOf y (f w)) e h)
in_flat f x y (z ∷ xs) (inr i) h = in_back y (f z) (flat_map f xs) (in_flat f x y xs i h)

pub of_flat : {A B : Type 0} (f : A → List B) (y : B) (xs : List A) → IsOneOf y (flat_map f xs) → (x : A) × IsOneOf x xs × IsOneOf y (f x)
of_flat f y [] i = absurd i
of_flat f y (z ∷ xs) i = elim (of_two y (f z) (flat_map f xs) i) [ inl k ↦ (z, inl refl, k) | inr k ↦ (let r = of_flat f y xs k in (r.0, inr r.1, r.2)) ]

pub all_at : {A : Type 0} (P : A → Type 0) (x : A) (xs : List A) → IsOneOf x xs → AllByRecursion P xs → P x
all_at P x [] i h = absurd i
all_at P x (z ∷ xs) (inl e) h = subst P (sym e) h.0
all_at P x (z ∷ xs) (inr i) h = all_at P x xs i h.1

pub all_from : {A : Type 0} (P : A → Type 0) (xs : List A) → ((x : A) → IsOneOf x xs → P x) → AllByRecursion P xs
all_from P [] f = tt
all_from P (x ∷ xs) f = (f x (inl refl), all_from P xs (λ y i. f y (inr i)))

-- ---- none stands twice

abbrev pub Distinct : {A : Type 0} → List A → Type 0
Distinct [] = Unit {0}
Distinct (x ∷ xs) = AllByRecursion (λ y. x ≡ y → ⊥) xs × Distinct xs

distinct_two : {A : Type 0} (xs ys : List A) → Distinct xs → Distinct ys → ((x : A) → IsOneOf x xs → IsOneOf x ys → ⊥) → Distinct (xs ++ ys)
distinct_two [] ys h k apart = k
distinct_two (x ∷ xs) ys h k apart = (
  all_from (λ y. x ≡ y → ⊥) (xs ++ ys)
      (λ y i e. elim (of_two y xs ys i) [ inl a ↦ all_at (λ y. x ≡ y → ⊥) y xs a h.0 e | inr b ↦ apart y (inl (sym e)) b ]),
  distinct_two xs ys h.1 k (λ y a b. apart y (inr a) b),
)

-- lists that show what they were made of
pub distinct_flat : {A B : Type 0} (f : A → List B) (key : B → A) → ((x : A) (y : B) → IsOneOf y (f x) → key y ≡ x) → ((x : A) → Distinct (f x)) → (xs : List A) → Distinct xs → Distinct (flat_map f xs)
distinct_flat f key keyed each [] h = tt
distinct_flat f key keyed each (x ∷ xs) h =
    distinct_two (f x) (flat_map f xs) (each x) (distinct_flat f key keyed each xs h.1)
    (λ y a b. let k = of_flat f y xs b in all_at (λ z. x ≡ z → ⊥) k.0 xs k.1 h.0 (sym (keyed x y a) ∙ keyed k.0 y k.2))

pub distinct_map : {A B : Type 0} (f : A → B) → ((x y : A) → f x ≡ f y → x ≡ y) → (xs : List A) → Distinct xs → Distinct (map f xs)
distinct_map f one [] h = tt
distinct_map f one (x ∷ xs) h = (
  all_from (λ y. f x ≡ y → ⊥) (map f xs) (λ y i e. let k = of_map f y xs i in all_at (λ z. x ≡ z → ⊥) k.0 xs k.2 h.0 (one x k.0 (e ∙ k.1))),
  distinct_map f one xs h.1,
)

pub distinct_range : (first count : ℕ) → Distinct (range_with_len first count)
distinct_range first zero = tt
distinct_range first (suc count) =
    (all_from (λ y. first ≡ y → ⊥) (range_with_len (first + 1) count) (λ y i e. let k = (of_range (first + 1) count y i).0 in omega arith), distinct_range (first + 1) count)

pub distinct_above : (x : ℕ) (xs : List ℕ) → AllByRecursion (λ y. x < y) xs → AllByRecursion (λ y. x ≡ y → ⊥) xs
distinct_above x [] h = tt
distinct_above x (y ∷ xs) h = ((λ e. let k = h.0 in omega arith), distinct_above x xs h.1)

-- ---- places

-- a test says whether two are the same
pub record Tells {A : Type 0} (test : A → A → Bool) : Type 0 where
  pub finds : (x : A) → test x x ≡ true
  pub only : (x y : A) → test x y ≡ true → x ≡ y

one_more : (n : ℕ) → 1 + n ≡ suc n
one_more n = omega arith

pub place_of : {A : Type 0} (test : A → A → Bool) → Tells test → (d x : A) (xs : List A) → IsOneOf x xs
    → (position_or_len (test x) xs < length xs) × (unwrap_or (slice_get xs (position_or_len (test x) xs)) d ≡ x)
place_of test T d x [] i = absurd i
place_of test T d x (y ∷ xs) i = by_test (test x y) refl i (place_of test T d x xs)
  where
    by_test : (b : Bool) → test x y ≡ b → IsOneOf x (y ∷ xs) → (IsOneOf x xs → (position_or_len (test x) xs < length xs) × (unwrap_or (slice_get xs (position_or_len (test x) xs)) d ≡ x))
        → (cond (not b) (1 + position_or_len (test x) xs) 0 < length (y ∷ xs)) × (unwrap_or (slice_get (y ∷ xs) (cond (not b) (1 + position_or_len (test x) xs) 0)) d ≡ x)
    by_test true e i rest = (omega arith, sym (T.only x y e))
    by_test false e (inl same) rest = absurd (let h : false ≡ true = sym e ∙ ap (test x) (sym same) ∙ T.finds x in cc)
    by_test false e (inr i) rest =
        let k = rest i in
        (let l = k.0 in omega arith, ap (λ (n : ℕ). unwrap_or (slice_get (y ∷ xs) n) d) (one_more (position_or_len (test x) xs)) ∙ k.1)

pub one_at : {A : Type 0} (d : A) (xs : List A) (i : ℕ) → i < length xs → IsOneOf (unwrap_or (slice_get xs i) d) xs
one_at d [] i h = absurd (omega arith)
one_at d (x ∷ xs) zero h = inl refl
one_at d (x ∷ xs) (suc i) h = inr (one_at d xs i (omega arith))

pub place_at : {A : Type 0} (test : A → A → Bool) → Tells test → (d : A) (xs : List A) (i : ℕ) → Distinct xs → i < length xs → position_or_len (test (unwrap_or (slice_get xs i) d)) xs ≡ i
place_at test T d [] i h l = absurd (omega arith)
place_at test T d (x ∷ xs) zero h l = ap (λ b. cond (not b) (1 + position_or_len (test x) xs) 0) (T.finds x)
place_at test T d (x ∷ xs) (suc i) h l = by_test (test (unwrap_or (slice_get xs i) d) x) refl (one_at d xs i (omega arith)) (place_at test T d xs i h.1 (omega arith))
  where
    by_test : (b : Bool) → test (unwrap_or (slice_get xs i) d) x ≡ b → IsOneOf (unwrap_or (slice_get xs i) d) xs → position_or_len (test (unwrap_or (slice_get xs i) d)) xs ≡ i
        → cond (not b) (1 + position_or_len (test (unwrap_or (slice_get xs i) d)) xs) 0 ≡ suc i
    by_test true e k rest = absurd (all_at (λ y. x ≡ y → ⊥) (unwrap_or (slice_get xs i) d) xs k h.0 (sym (T.only (unwrap_or (slice_get xs i) d) x e)))
    by_test false e k rest = omega arith
