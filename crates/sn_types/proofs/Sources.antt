-- A typed file stands for a file: what stands in it at a place comes from a query or a branch that keeps the limits
-- and has no fault.
use Rattle.std.proofs.Common.{◌≡◌, ℕ, zero, suc, ◌<◌, List, [], ◌∷◌, ◌++◌, map, length, Option, None, Some, slice_get, unwrap_or, refl, sym, ◌∙◌, subst, arith}
use Rattle.std.specs.List.{AllByRecursion, flat_map}
use Rattle.sn_query_grammar.specs.declared.ast.Query.{Query}
use Rattle.sn_types_faults.specs.declared.fault.TypeFault.{TypeFault}
use Rattle.sn_query_grammar.specs.Limits.{QueryLimits}
use Rattle.sn_types_faults.specs.Walk.{Place, first_fault, or_later, query_places}
use Rattle.sn_types_faults.proofs.WalkLemmas.{first_fault-append}
use Rattle.sn_types.specs.declared.typed_query.TypedQuery.{TypedQuery}
use Rattle.sn_types.specs.Typing.{typed_query}
use Rattle.sn_types.specs.Typed.{IsTyped, blank_query, query_at}
use Rattle.sn_base.proofs.Lists.{all_both}

-- ---- no fault in either of two parts

pub later_none : (a b : Option TypeFault) → or_later a b ≡ None → (a ≡ None) × (b ≡ None)
later_none None b e = (refl, e)
later_none (Some f) b e = cc

pub none_in_both : (ps qs : List Place) → first_fault (ps ++ qs) ≡ None → (first_fault ps ≡ None) × (first_fault qs ≡ None)
none_in_both ps qs e = later_none (first_fault ps) (first_fault qs) (sym (first_fault-append ps qs) ∙ e)

pub none_in_each : {X : Type 0} (f : X → List Place) (xs : List X) → first_fault (flat_map f xs) ≡ None → AllByRecursion (λ x. first_fault (f x) ≡ None) xs
none_in_each f [] e = tt
none_in_each f (x ∷ xs) e = let parts = none_in_both (f x) (flat_map f xs) e in (parts.0, none_in_each f xs parts.1)

-- an item of a map comes from an item
pub item_at : {X Y : Type 0} (f : X → Y) (P : X → Type 0) (d : Y) (xs : List X) (i : ℕ) → AllByRecursion P xs → i < length (map f xs)
    → (x : X) × (P x) × (unwrap_or (slice_get (map f xs) i) d ≡ f x)
item_at f P d [] i h lt = absurd (omega arith)
item_at f P d (x ∷ xs) zero h lt = (x, h.0, refl)
item_at f P d (x ∷ xs) (suc i) h lt = item_at f P d xs i h.1 (omega arith)

-- ---- where a query comes from

pub record Source (queries : List TypedQuery) (q : ℕ) : Type 0 where
  pub query : Query
  pub limits : QueryLimits query
  pub no_fault : first_fault (query_places query) ≡ None
  pub is : query_at queries q ≡ typed_query query

HasSource : Query → Type 0
HasSource x = QueryLimits x × (first_fault (query_places x) ≡ None)

sourced : (queries : List TypedQuery) (q : ℕ) → (x : Query) × (HasSource x) × (query_at queries q ≡ typed_query x) → Source queries q
unfolding HasSource
sourced queries q s = record { query = s.0; limits = s.1.0; no_fault = s.1.1; is = s.2 }

source_in : (sources : List Query) (q : ℕ) → AllByRecursion QueryLimits sources → first_fault (flat_map query_places sources) ≡ None → q < length (map typed_query sources) → Source (map typed_query sources) q
unfolding HasSource
source_in sources q limits none lt =
    sourced (map typed_query sources) q (item_at typed_query HasSource blank_query sources q (all_both QueryLimits (λ x. first_fault (query_places x) ≡ None) sources limits (none_in_each query_places sources none)) lt)

pub source_of : (window : ℕ) (queries : List TypedQuery) (q : ℕ) → IsTyped window queries → q < length queries → Source queries q
source_of window queries q t lt =
    subst (λ (qs : List TypedQuery). q < length qs → Source qs q) (sym t.1.same_queries) (source_in t.0.queries q t.1.limits.each t.1.no_fault) lt
