-- A path with rising levels is a path of its query.
use Rattle.std.proofs.Common.{◌≡◌, ℕ, ◌<◌, List, [], ◌∷◌, length, Bool, true, false, ◌||◌, nat_eq, is_some, IsSome, Option, None, Some, slice_index, refl, sym, ◌∙◌, subst, arith}
use Rattle.std.proofs.Math.Bool.{Bool-set}
use Rattle.std.proofs.Math.Logic.{∥∥₁_elim}
use Rattle.std.proofs.lemmas.Bool.{false≢true}
use Rattle.std.specs.List.{AllByRecursion, list_any}
use Rattle.sn_base.proofs.Lists.{by_test, nat_same}
use Rattle.sn_query_grammar.specs.declared.ast.Query.{Query}
use Rattle.sn_query_grammar.specs.declared.ast.Refine.{Refine}
use Rattle.sn_types.specs.declared.typed_query.TypedQuery.{TypedQuery}
use Rattle.sn_types.specs.Typed.{IsTyped, query_at}
use Rattle.sn_types.specs.Typing.{levels_of}
use Rattle.sn_types.proofs.RefinedLemmas.{refined_alike}
use Rattle.sn_types.proofs.Sources.{source_of}
use Rattle.sn_refine.specs.Steps.{IsPathOf}

one_level : (n : ℕ) → list_any (nat_eq n) (0 ∷ []) ≡ true → n ≡ 0
one_level n among = by_test (nat_eq n 0) (λ is. nat_same n 0 is) (λ isnt. absurd (false≢true (sym (none isnt) ∙ among)))
  where
    none : nat_eq n 0 ≡ false → (nat_eq n 0 || false) ≡ false
    none isnt = subst (λ (b : Bool). (b || false) ≡ false) (sym isnt) refl

two_levels : (refine : Option Refine) (a b : ℕ) → list_any (nat_eq a) (levels_of refine) ≡ true → list_any (nat_eq b) (levels_of refine) ≡ true → a < b → is_some refine ≡ true
two_levels None a b first second lt = let l = one_level a first in let r = one_level b second in absurd (omega (arith, l, r, lt))
two_levels (Some refine) a b first second lt = refl

-- a query with two levels is refined
pub several_are_refined : (window : ℕ) (queries : List TypedQuery) (q a b : ℕ) → ∥ IsTyped window queries ∥₁ → q < length queries
    → list_any (nat_eq a) (query_at queries q).levels ≡ true → list_any (nat_eq b) (query_at queries q).levels ≡ true → a < b → IsSome (query_at queries q).field
several_are_refined window queries q a b t lt first second rises =
    ∥∥₁_elim t (Bool-set (is_some (query_at queries q).field) true) (λ t.
    let s = source_of window queries q t lt in
    let x : Query = s.query in
    let P : TypedQuery → Type 0 = λ y. list_any (nat_eq a) y.levels ≡ true → list_any (nat_eq b) y.levels ≡ true → is_some y.field ≡ true in
    subst P (sym s.is) (λ l r. (refined_alike x s.no_fault).0 ∙ two_levels x.refine a b l r rises) first second)

pub path_of : (window : ℕ) (queries : List TypedQuery) (q : ℕ) (path : List ℕ) → ∥ IsTyped window queries ∥₁ → q < length queries
    → AllByRecursion (λ level. list_any (nat_eq level) (query_at queries q).levels ≡ true) path → (1 < length path → slice_index path 0 < slice_index path 1) → IsPathOf queries q path
path_of window queries q [] t lt known rises = record { query = lt; known = known; refined = λ two. absurd (omega (arith, two)) }
path_of window queries q (a ∷ []) t lt known rises = record { query = lt; known = known; refined = λ two. absurd (omega (arith, two)) }
path_of window queries q (a ∷ b ∷ path) t lt known rises = record { query = lt; known = known; refined = λ two. several_are_refined window queries q a b t lt known.0 known.1.0 (rises two) }
