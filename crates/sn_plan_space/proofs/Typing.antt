-- Typed queries are readable.
use Rattle.std.proofs.Common.{ℕ, ◌<◌, ◌≤◌, List, length, Option, None, Some, ap, arith}
use Rattle.std.specs.Prelude.{IfSome}
use Rattle.std.proofs.Math.Bridge.{le_prop}
use Rattle.std.proofs.Math.Logic.{∥∥₁_elim}
use Rattle.sn_query_grammar.specs.declared.ast.Refine.{Refine}
use Rattle.sn_query_grammar.specs.Limits.{RefineLimits}
use Rattle.sn_types.specs.declared.typed_query.TypedQuery.{TypedQuery}
use Rattle.sn_types.specs.Typed.{IsTyped, query_at}
use Rattle.sn_types.specs.Typing.{levels_of}
use Rattle.sn_types.proofs.Facts.{few_branches}
use Rattle.sn_types.proofs.Levels.{level_some}
use Rattle.sn_types.proofs.Sources.{source_of}
use Rattle.sn_plan_choices.proofs.Narrow.{typed_narrow}
use Rattle.sn_plan_space.specs.Readable.{AreReadable}

four_levels : (refine : Option Refine) → IfSome refine RefineLimits → length (levels_of refine) ≤ 4
four_levels None h = omega arith
four_levels (Some r) h = h.count.to_most

few_levels : (window : ℕ) (queries : List TypedQuery) (q : ℕ) → ∥ IsTyped window queries ∥₁ → q < length queries → length (query_at queries q).levels ≤ 4
few_levels window queries q t lt =
    ∥∥₁_elim t le_prop (λ t.
    let s = source_of window queries q t lt in
    let same = ap (λ (x : TypedQuery). length x.levels) s.is in
    let four = four_levels s.query.refine s.limits.refine in
    omega (arith, same, four))

pub typed_readable : (window : ℕ) (queries : List TypedQuery) → ∥ IsTyped window queries ∥₁ → AreReadable queries
typed_readable window queries t q lt = record {
  some = level_some window queries q t lt;
  levels = few_levels window queries q t lt;
  branches = few_branches window queries q t lt;
  narrow = λ b within. typed_narrow window queries q b t lt within;
}
