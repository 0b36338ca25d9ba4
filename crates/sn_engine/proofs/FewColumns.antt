use Rattle.std.proofs.Common.{◌≡◌, ℕ, ◌∷◌, List, [], length, None, Some, slice_get, refl, arith}

-- a list whose first numbers are known, and which has no more

pub no_column : (xs : List ℕ) → slice_get xs 0 ≡ None → [] ≡ xs
no_column [] none = refl
no_column (x ∷ xs) none = absurd (cc)

pub one_column : (xs : List ℕ) (a : ℕ) → slice_get xs 0 ≡ Some a → slice_get xs 1 ≡ None → a ∷ [] ≡ xs
one_column [] a first none = absurd (cc)
one_column (x ∷ []) a first none = cc
one_column (x ∷ y ∷ xs) a first none = absurd (cc)

pub two_columns : (xs : List ℕ) (a b : ℕ) → slice_get xs 0 ≡ Some a → slice_get xs 1 ≡ Some b → slice_get xs 2 ≡ None → a ∷ b ∷ [] ≡ xs
two_columns [] a b first second none = absurd (cc)
two_columns (x ∷ []) a b first second none = absurd (cc)
two_columns (x ∷ y ∷ []) a b first second none = cc
two_columns (x ∷ y ∷ z ∷ xs) a b first second none = absurd (cc)

pub three_columns : (xs : List ℕ) (a b c : ℕ) → slice_get xs 0 ≡ Some a → slice_get xs 1 ≡ Some b → slice_get xs 2 ≡ Some c → length xs ≡ 3 → a ∷ b ∷ c ∷ [] ≡ xs
three_columns [] a b c first second third three = absurd (cc)
three_columns (x ∷ []) a b c first second third three = absurd (cc)
three_columns (x ∷ y ∷ []) a b c first second third three = absurd (cc)
three_columns (x ∷ y ∷ z ∷ []) a b c first second third three = cc
three_columns (x ∷ y ∷ z ∷ w ∷ xs) a b c first second third three = absurd (omega (arith, three))
