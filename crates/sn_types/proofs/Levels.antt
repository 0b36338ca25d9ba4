-- The levels of a typed file's queries.
use Rattle.std.proofs.Common.{◌≡◌, ℕ, zero, suc, ◌<◌, ◌≤◌, List, [], ◌∷◌, true, ◌||◌, length, nat_eq, slice_index, Option, None, Some, ap, arith}
use Rattle.std.specs.List.{list_any}
use Rattle.std.proofs.Math.Bridge.{le_prop}
use Rattle.std.proofs.Math.Logic.{∥∥₁_elim}
use Rattle.sn_base.proofs.Lists.{nat_self, or_right}
use Rattle.sn_query_grammar.specs.declared.ast.Refine.{Refine}
use Rattle.sn_query_grammar.specs.Limits.{RefineLimits}
use Rattle.std.specs.Prelude.{IfSome}
use Rattle.sn_types.specs.declared.typed_query.TypedQuery.{TypedQuery}
use Rattle.sn_types.specs.Typed.{IsTyped, query_at}
use Rattle.sn_types.specs.Typing.{levels_of}
use Rattle.sn_types.proofs.Sources.{source_of}

some_levels : (refine : Option Refine) → IfSome refine RefineLimits → 1 ≤ length (levels_of refine)
some_levels None h = omega arith
some_levels (Some r) h = h.count.from_least

-- a query has a level
pub level_some : (window : ℕ) (queries : List TypedQuery) (q : ℕ) → ∥ IsTyped window queries ∥₁ → q < length queries → 1 ≤ length (query_at queries q).levels
level_some window queries q t lt =
    ∥∥₁_elim t le_prop (λ t.
    let s = source_of window queries q t lt in
    let same = ap (λ (x : TypedQuery). length x.levels) s.is in
    let some = some_levels s.query.refine s.limits.refine in
    omega (arith, same, some))

-- what stands at a place is among the items
pub is_among : (ns : List ℕ) (i : ℕ) → i < length ns → list_any (nat_eq (slice_index ns i)) ns ≡ true
is_among [] i lt = absurd (omega arith)
is_among (n ∷ ns) zero lt = ap (λ b. b || list_any (nat_eq n) ns) (nat_self n)
is_among (n ∷ ns) (suc i) lt = or_right (nat_eq (slice_index ns i) n) (list_any (nat_eq (slice_index ns i)) ns) (is_among ns i (omega arith))
