-- The queries of a typed file keep their bounds.
use Rattle.std.proofs.Common.{◌≡◌, ℕ, suc, ◌<◌, ◌≤◌, List, [], ◌∷◌, true, false, not, ◌||◌, ◌&&◌, length, nat_lt, is_none, Option, None, Some, IfSome, slice_get, unwrap_or, cond, ap, sym, subst, arith, lit≤}
use Rattle.std.specs.List.{AllByRecursion, AllByRecursion-prop, list_all, list_any}
use Rattle.std.specs.Option.{option_map_or}
use Rattle.std.proofs.Math.Bridge.{le_prop}
use Rattle.std.proofs.Math.Logic.{∥∥₁_elim}
use Rattle.std.proofs.lemmas.Bool.Decides.{nat_tests}
use Rattle.sn_base.proofs.Lists.{and_parts, not_false, or_none, all_weaker as all_each}
use Rattle.sn_fields.specs.declared.field.Field.{Field}
use Rattle.sn_fields.specs.Fields.{with_name, width_of, is_address}
use Rattle.sn_query_grammar.specs.declared.ast.Refine.{Refine}
use Rattle.sn_query_grammar.specs.Limits.{RefineLimits}
use Rattle.sn_types_faults.specs.declared.fault.TypeFault.{TypeFault}
use Rattle.sn_types_faults.specs.declared.fault.TypeFault.TheVariants.{UnknownField, Levels}
use Rattle.sn_types_faults.specs.Faults.{are_rising, wrong_refine, wrong_field_levels, out_of_range, refine_fault}
use Rattle.sn_types_faults.specs.Walk.{first_fault, refine_places}
use Rattle.sn_types.specs.declared.typed_query.TypedQuery.{TypedQuery}
use Rattle.sn_types.specs.Typed.{IsTyped, query_at, blank_query, blank_branch}
use Rattle.sn_types.specs.Typing.{levels_of}
use Rattle.sn_types.proofs.Facts.{few_branches, if_none, parts_of}
use Rattle.sn_types.proofs.Levels.{level_some}
use Rattle.sn_types.proofs.Sources.{source_of, later_none}
use Rattle.sn_switch.specs.declared.switch.Switch.{Switch}
use Rattle.sn_switch.specs.Texts.{IsSwitch}
use Rattle.sn_base.specs.Rising.{IsRising}
use Rattle.sn_plan_choices.specs.Settings.{IsNarrow}
use Rattle.sn_plan_choices.proofs.Narrow.{typed_narrow}
use Rattle.sn_plan_lists.specs.Bounds.{HasBounds}
use Rattle.sn_plan_lists.specs.Chosen.{HasLevels}
use Rattle.sn_plan_lists.specs.Theorems.{HaveRisingNumbers}

-- ---- lists by their places

all_places : {A : Type 0} (P : A → Type 0) (d : A) (xs : List A) → ((i : ℕ) → i < length xs → P (unwrap_or (slice_get xs i) d)) → AllByRecursion P xs
all_places P d [] f = tt
all_places P d (x ∷ xs) f = (f 0 (omega arith), all_places P d xs (λ i h. f (suc i) (omega arith)))

-- ---- levels rise

all_above : (x : ℕ) (xs : List ℕ) → list_all (nat_lt x) xs ≡ true → AllByRecursion (λ y. x < y) xs
all_above x [] e = tt
all_above x (y ∷ xs) e = let parts = and_parts (nat_lt x y) (list_all (nat_lt x) xs) e in (below x y parts.0, all_above x xs parts.1)
  where
    below : (x y : ℕ) → nat_lt x y ≡ true → x < y
    below x y e = grind (arith, nat_tests)

rising : (xs : List ℕ) → are_rising xs ≡ true → IsRising xs
rising [] e = tt
rising (x ∷ xs) e = let parts = and_parts (list_all (nat_lt x) xs) (are_rising xs) e in (all_above x xs parts.0, rising xs parts.1)

field_rising : (o : Option Field) (levels : List ℕ) → is_none o ≡ false → option_map_or (λ f. wrong_field_levels f levels) o false ≡ false → are_rising levels ≡ true
field_rising None levels some e = cc
field_rising (Some g) levels some e =
    let bad = or_none (not (is_address g) || not (are_rising levels)) (list_any (out_of_range (width_of g)) levels) e in
    not_false (are_rising levels) (or_none (not (is_address g)) (not (are_rising levels)) bad.0).1

refine_rising : (refine : Option Refine) → first_fault (refine_places refine) ≡ None → IsRising (levels_of refine)
refine_rising None none = (tt, tt)
refine_rising (Some r) none =
    let first = later_none (refine_fault r) None none in
    let of_levels : Option TypeFault = cond (wrong_refine r) (Some (Levels r.line)) None in
    let a = if_none (is_none (with_name r.field)) (UnknownField r.line) of_levels first.0 in
    let b = if_none (wrong_refine r) (Levels r.line) None a.1 in
    rising r.levels (field_rising (with_name r.field) r.levels a.0 b.0)

rising_prop : (xs : List ℕ) → IsProp (IsRising xs)
rising_prop [] = hlevel le_prop
rising_prop (x ∷ xs) = let a = AllByRecursion-prop (λ y. x < y) (λ y. le_prop) xs in let b = rising_prop xs in hlevel (a, b)

few_refined : (refine : Option Refine) → IfSome refine RefineLimits → length (levels_of refine) ≤ 4
few_refined None h = lit≤ tt
few_refined (Some r) h = h.count.to_most

module _ (window : ℕ) (queries : List TypedQuery) (t : ∥ IsTyped window queries ∥₁) (q : ℕ) (lt : q < length queries) where
  few_levels : length (query_at queries q).levels ≤ 4
  few_levels = ∥∥₁_elim t le_prop (λ t.
      let s = source_of window queries q t lt in
      let same = ap (λ (x : TypedQuery). length x.levels) s.is in
      let most = few_refined s.query.refine s.limits.refine in omega (arith, same, most))

  levels_rise : IsRising (query_at queries q).levels
  levels_rise = ∥∥₁_elim t (rising_prop (query_at queries q).levels) (λ t.
      let s = source_of window queries q t lt in
      subst (λ (x : TypedQuery). IsRising x.levels) (sym s.is) (refine_rising s.query.refine (parts_of s.query s.no_fault).0))

  bounds : HasBounds (query_at queries q)
  bounds = record {
    levels = record { some = level_some window queries q t lt; rising = levels_rise };
    few = few_levels;
    branches = few_branches window queries q t lt;
    narrow = all_places IsNarrow blank_branch (query_at queries q).branches (λ b h. typed_narrow window queries q b t lt h);
  }

pub typed_bounds : (window : ℕ) (queries : List TypedQuery) → ∥ IsTyped window queries ∥₁ → AllByRecursion HasBounds queries
typed_bounds window queries t = all_places HasBounds blank_query queries (λ q lt. bounds window queries t q lt)

pub all_rising : (s : Switch) (window : ℕ) (queries : List TypedQuery) → ∥ IsTyped window queries ∥₁ → IsSwitch s → HaveRisingNumbers s queries
all_rising s window queries t is = record { levels = all_each HasBounds HasLevels (λ q h. h.levels) queries (typed_bounds window queries t); sizes = is.slots.rising }
