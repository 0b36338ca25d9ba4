-- Fronts are paths of their queries.
use Rattle.std.proofs.Common.{◌≡◌, ℕ, suc, ◌≤◌, ◌<◌, ◌^◌, ◌/◌, ◌%◌, List, [], ◌∷◌, length, Bool, true, false, cond, is_some, IsSome, nat_eq, slice_index, Option, None, Some, refl, ap, sym, ◌∙◌, subst, arith}
use Rattle.std.specs.Prelude.{◌==◌, IfSome}
use Rattle.std.specs.List.{AllByRecursion, list_any}
use Rattle.std.proofs.Math.Bool.{Bool-set}
use Rattle.std.proofs.Math.Bridge.{le_prop}
use Rattle.std.proofs.Math.Logic.{∥∥₁_elim}
use Rattle.std.proofs.Math.Pow.{pow_mono}
use Rattle.sn_base.proofs.Lists.{all_at, nat_self, or_left, or_right}
use Rattle.sn_query_grammar.specs.declared.ast.Refine.{Refine}
use Rattle.sn_query_grammar.specs.Limits.{RefineLimits}
use Rattle.sn_types.specs.declared.typed_query.TypedQuery.{TypedQuery}
use Rattle.sn_types.specs.Typed.{IsTyped, query_at}
use Rattle.sn_types.specs.Typing.{levels_of}
use Rattle.sn_types.proofs.RefinedLemmas.{refined_alike}
use Rattle.sn_types.proofs.Sources.{source_of}
use Rattle.sn_refine.specs.Steps.{IsPathOf}
use Rattle.sn_cost.specs.Entries.{front_of}

-- ---- levels

few_levels : (refine : Option Refine) → IfSome refine RefineLimits → length (levels_of refine) ≤ 4
few_levels None h = omega arith
few_levels (Some r) h = h.count.to_most

-- a query has at most four levels
pub four_levels : (window : ℕ) (queries : List TypedQuery) (q : ℕ) → ∥ IsTyped window queries ∥₁ → q < length queries → length (query_at queries q).levels ≤ 4
four_levels window queries q t lt =
    ∥∥₁_elim t le_prop (λ t.
    let s = source_of window queries q t lt in
    let same = ap (λ (x : TypedQuery). length x.levels) s.is in
    let few = few_levels s.query.refine s.limits.refine in
    omega (arith, same, few))

-- a query has at most sixteen fronts
pub few_fronts : (levels : List ℕ) → length levels ≤ 4 → 2 ^ length levels ≤ 16
few_fronts levels le = let most : 2 ^ length levels ≤ 2 ^ 4 = pow_mono le in omega (arith, most)

several : (refine : Option Refine) → 1 < length (levels_of refine) → is_some refine ≡ true
several None lt = absurd (omega (arith, lt))
several (Some r) lt = refl

-- a query with several levels is refined
pub several_refined : (window : ℕ) (queries : List TypedQuery) (q : ℕ) → ∥ IsTyped window queries ∥₁ → q < length queries → 1 < length (query_at queries q).levels → IsSome (query_at queries q).field
several_refined window queries q t lt long =
    ∥∥₁_elim t (Bool-set (is_some (query_at queries q).field) true) (λ t.
    let s = source_of window queries q t lt in
    let P : TypedQuery → Type 0 = λ y. 1 < length y.levels → is_some y.field ≡ true in
    subst P (sym s.is) (λ l. (refined_alike s.query s.no_fault).0 ∙ several s.query.refine l) long)

-- ---- fronts

front_short : (m : ℕ) (levels : List ℕ) → length (front_of m levels) ≤ length levels
front_short m [] = omega arith
front_short m (level ∷ levels) = by_bit (m % 2 == 1) (front_short (m / 2) levels)
  where
    by_bit : (b : Bool) → length (front_of (m / 2) levels) ≤ length levels → length (cond b (level ∷ front_of (m / 2) levels) (front_of (m / 2) levels)) ≤ suc (length levels)
    by_bit true rest = omega (arith, rest)
    by_bit false rest = omega (arith, rest)

front_all : (P : ℕ → Type 0) (m : ℕ) (levels : List ℕ) → AllByRecursion P levels → AllByRecursion P (front_of m levels)
front_all P m [] h = tt
front_all P m (level ∷ levels) h = by_bit (m % 2 == 1) (front_all P (m / 2) levels h.1)
  where
    by_bit : (b : Bool) → AllByRecursion P (front_of (m / 2) levels) → AllByRecursion P (cond b (level ∷ front_of (m / 2) levels) (front_of (m / 2) levels))
    by_bit true rest = (h.0, rest)
    by_bit false rest = rest

each_among : (all some : List ℕ) → ((n : ℕ) → list_any (nat_eq n) some ≡ true → list_any (nat_eq n) all ≡ true) → AllByRecursion (λ n. list_any (nat_eq n) all ≡ true) some
each_among all [] on = tt
each_among all (n ∷ some) on =
    (on n (or_left (nat_eq n n) (list_any (nat_eq n) some) (nat_self n)), each_among all some (λ x among. on x (or_right (nat_eq x n) (list_any (nat_eq x) some) among)))

-- a level is one of the levels
pub level_known : (levels : List ℕ) (place : ℕ) → place < length levels → list_any (nat_eq (slice_index levels place)) levels ≡ true
level_known levels place lt = all_at (λ n. list_any (nat_eq n) levels ≡ true) levels place (each_among levels levels (λ n among. among)) lt

-- a front is a path of its query
pub front_path : (window : ℕ) (queries : List TypedQuery) (q m : ℕ) → ∥ IsTyped window queries ∥₁ → q < length queries → IsPathOf queries q (front_of m (query_at queries q).levels)
front_path window queries q m t lt =
    let levels : List ℕ = (query_at queries q).levels in
    let short = front_short m levels in
    record {
      query = lt;
      known = front_all (λ n. list_any (nat_eq n) levels ≡ true) m levels (each_among levels levels (λ n among. among));
      refined = λ two. several_refined window queries q t lt (omega (arith, two, short));
    }
