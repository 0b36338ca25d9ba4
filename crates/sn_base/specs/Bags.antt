-- to be believed
use Rattle.std.specs.Prelude.{List, ◌∷◌}

-- two lists are the same bag: exchanges of neighbours lead from one to the other
pub data SameBag {A : Type 0} : List A → List A → Type 0 where
  stays : (xs : List A) → SameBag xs xs
  following : (x : A) (xs ys : List A) → SameBag xs ys → SameBag (x ∷ xs) (x ∷ ys)
  turned : (x y : A) (xs : List A) → SameBag (x ∷ y ∷ xs) (y ∷ x ∷ xs)
  joined : (xs ys zs : List A) → SameBag xs ys → SameBag ys zs → SameBag xs zs
