-- The fault of a place is never that memory ran out.
use Rattle.std.proofs.Common.{◌≡◌, ℕ, Bool, true, false, cond, List, [], ◌∷◌, Option, Some, None}
use Rattle.std.specs.List.{AllByRecursion}
use Rattle.sn_types_faults.specs.declared.fault.TypeFault.{TypeFault}
use Rattle.sn_types_faults.specs.declared.fault.TypeFault.TheVariants.{UnknownField, UnknownColumn, TooWide, NoMap, RefineLost, RefineFilter, Levels, JoinKeys, Memory}
use Rattle.std.specs.Prelude.{is_none}
use Rattle.sn_fields.specs.Fields.{with_name}
use Rattle.sn_types_faults.specs.Faults.{least, unknown_field, unknown_column, too_wide, no_map, refine_lost, refine_filter, wrong_levels, wrong_refine, join_too_wide, join_loses, wrong_keys}
use Rattle.sn_types_faults.specs.Walk.{Place, RefineLine, Operator, JoinLine, fault_at, or_later, first_fault}

abbrev Real : TypeFault → Type 0
Real fault = fault ≡ Memory → ⊥

real_cond : (b : Bool) (f : TypeFault) (rest : Option TypeFault) → Real f → (rest ≡ Some Memory → ⊥) → cond b (Some f) rest ≡ Some Memory → ⊥
real_cond true f rest h k e = h cc
real_cond false f rest h k e = k e

real_least : (fs : List (Bool × TypeFault)) → AllByRecursion (λ f. Real f.1) fs → least fs ≡ Some Memory → ⊥
real_least [] h e = absurd cc
real_least (f ∷ fs) h e = real_cond f.0 f.1 (least fs) h.0 (real_least fs h.1) e

refine_real : (a b : Bool) (line : ℕ) → least ((a, UnknownField line) ∷ (b, Levels line) ∷ []) ≡ Some Memory → ⊥
refine_real a b line e = real_least ((a, UnknownField line) ∷ (b, Levels line) ∷ []) (λ h. absurd cc, (λ h. absurd cc, tt)) e

join_real : (a b c : Bool) (line : ℕ) → least ((a, TooWide line) ∷ (b, RefineLost line) ∷ (c, JoinKeys line) ∷ []) ≡ Some Memory → ⊥
join_real a b c line e = real_least ((a, TooWide line) ∷ (b, RefineLost line) ∷ (c, JoinKeys line) ∷ []) (λ h. absurd cc, (λ h. absurd cc, (λ h. absurd cc, tt))) e

operator_real : (a b c d x y z : Bool) (line : ℕ) → least ((a, UnknownField line) ∷ (b, UnknownColumn line) ∷ (c, TooWide line) ∷ (d, NoMap line) ∷ (x, RefineLost line) ∷ (y, RefineFilter line) ∷ (z, Levels line) ∷ []) ≡ Some Memory → ⊥
operator_real a b c d x y z line e = real_least ((a, UnknownField line) ∷ (b, UnknownColumn line) ∷ (c, TooWide line) ∷ (d, NoMap line) ∷ (x, RefineLost line) ∷ (y, RefineFilter line) ∷ (z, Levels line) ∷ [])
    (λ h. absurd cc, (λ h. absurd cc, (λ h. absurd cc, (λ h. absurd cc, (λ h. absurd cc, (λ h. absurd cc, (λ h. absurd cc, tt))))))) e

place_real : (p : Place) → fault_at p ≡ Some Memory → ⊥
place_real (RefineLine r) e = refine_real (is_none (with_name r.field)) (wrong_refine r) r.line e
place_real (Operator levels scope op last) e = operator_real (unknown_field scope op.what) (unknown_column scope op.what) (too_wide scope op.what) (no_map scope op.what) (refine_lost scope op.what last) (refine_filter scope op.what) (wrong_levels levels op.what) op.line e
place_real (JoinLine left right join) e = join_real (join_too_wide left.columns right.columns join.keys) (join_loses left.carried right.carried join.keys) (wrong_keys left.columns right.columns join.keys) join.line e

real_later : (a b : Option TypeFault) → (a ≡ Some Memory → ⊥) → (b ≡ Some Memory → ⊥) → or_later a b ≡ Some Memory → ⊥
real_later (Some f) b h k e = h e
real_later None b h k e = k e

pub never_memory : (ps : List Place) → first_fault ps ≡ Some Memory → ⊥
never_memory [] e = absurd cc
never_memory (p ∷ ps) e = real_later (fault_at p) (first_fault ps) (place_real p) (never_memory ps) e
