-- to be believed
use Rattle.std.specs.Prelude.{◌≡◌, ℕ, List, [], ◌∷◌, map, filter, fold, Bool, false, not, nat_eq, slice_index, if◌then◌else◌}
use Rattle.std.specs.List.{AllByRecursion}
use Rattle.std.specs.Cmp.Lexicographic.{pointwise}

-- a row, as contracts see it: its columns in order
abbrev pub Row : Type 0
Row = List ℕ

-- two rows are the same
abbrev pub same_row : Row → Row → Bool
same_row = pointwise nat_eq

-- the keys that occur, each once, in the order of their first places
abbrev pub once : {K : Type 0} → (K → K → Bool) → List K → List K
once same [] = []
once same (k ∷ ks) = k ∷ filter (λ x. not (same k x)) (once same ks)

-- no two are the same
abbrev pub Apart : {K : Type 0} → (K → K → Bool) → List K → Type 0
Apart same [] = Unit {0}
Apart same (k ∷ ks) = AllByRecursion (λ x. same k x ≡ false) ks × Apart same ks

-- the values that stand at a key
abbrev pub values_at : {K : Type 0} → (K → K → Bool) → K → List (K × ℕ) → List ℕ
values_at same k pairs = map (λ p. p.1) (filter (λ p. same k p.0) pairs)

-- a key beside its number
abbrev pub paired : {K : Type 0} → (K → ℕ) → K → K × ℕ
paired f k = (k, f k)

-- each key that occurs, with the fold of its values
abbrev pub folded : {K : Type 0} → (K → K → Bool) → (ℕ → ℕ → ℕ) → ℕ → List (K × ℕ) → List (K × ℕ)
folded same step unit pairs = map (paired (λ k. fold step unit (values_at same k pairs))) (once same (map (λ p. p.0) pairs))

-- a key takes a number: in the place of the one that it has, or after all others
abbrev pub put_entry : {K : Type 0} → (K → K → Bool) → List (K × ℕ) → K → ℕ → List (K × ℕ)
put_entry same [] k n = (k, n) ∷ []
put_entry same (e ∷ es) k n = if same k e.0 then (e.0, n) ∷ es else e ∷ put_entry same es k n

-- the columns of a row at these places
abbrev pub columns_at : List ℕ → Row → Row
columns_at places row = map (λ place. slice_index row place) places

-- a row as its key and its value
abbrev pub keyed : List ℕ → ℕ → Row → Row × ℕ
keyed places value row = (columns_at places row, slice_index row value)
