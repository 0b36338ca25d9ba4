-- No operator of a refined branch loses the carried column.
use Rattle.std.proofs.Common.{◌≡◌, ℕ, ◌⊎◌, List, [], ◌∷◌, Bool, true, false, not, ◌||◌, ◌&&◌, cond, Option, None, Some, inl, inr, refl, ap, sym, ◌∙◌, subst}
use Rattle.std.specs.List.{AllByRecursion, list_any}
use Rattle.std.specs.Option.{option_map_or}
use Rattle.std.proofs.lemmas.Bool.{false≢true}
use Rattle.sn_base.proofs.FoldedLemmas.{same_row_exact}
use Rattle.sn_base.proofs.Lists.{all_front, by_test, not_false, or_none}
use Rattle.sn_base.specs.declared.column.Column.{Column}
use Rattle.sn_query_grammar.specs.declared.ast.Expr.{Expr}
use Rattle.sn_query_grammar.specs.declared.ast.Expr.TheVariants.{Const, Copy, Mask, Shift, Sum, Ratio}
use Rattle.sn_query_grammar.specs.declared.ast.MapCol.{MapCol}
use Rattle.sn_query_grammar.specs.declared.ast.Op.{Op}
use Rattle.sn_query_grammar.specs.declared.ast.What.{What}
use Rattle.sn_query_grammar.specs.declared.ast.What.TheVariants as what
use Rattle.sn_types_faults.specs.declared.fault.TypeFault.{TypeFault}
use Rattle.sn_types_faults.specs.declared.fault.TypeFault.TheVariants.{UnknownField, UnknownColumn, TooWide, NoMap, RefineLost, RefineFilter, Levels}
use Rattle.sn_types_faults.specs.declared.scope.Scope.{Scope}
use Rattle.sn_types_faults.specs.Columns.{carried_after, columns_after, is_copy}
use Rattle.sn_types_faults.specs.Faults.{ends_unmapped, loses, no_map, refine_filter, refine_lost, too_wide, unknown_column, unknown_field, wrong_levels}
use Rattle.sn_types_faults.specs.Names.{Name, is_in, is_map, names_in, same_name}
use Rattle.sn_types_faults.specs.Walk.Place.{Operator}
use Rattle.sn_types_faults.specs.Walk.{carried_along, fault_at, first_fault, operator_places, scope_after}
use Rattle.sn_types.proofs.Facts.{if_none}
use Rattle.sn_types.proofs.Known.{IsKnown, all_parts}
use Rattle.sn_types.proofs.Sound.{AreSound, IsSound}
use Rattle.sn_types.proofs.Sources.{later_none}

-- ---- no operator loses the carried column

pub not_lost : (levels : List ℕ) (scope : Scope) (op : Op) (last : Bool) (name : Name) → scope.carried ≡ Some name → fault_at (Operator levels scope op last) ≡ None → (loses name op.what ≡ false) × (ends_unmapped scope op.what last ≡ false)
not_lost levels scope op last name carried none =
    let of_levels : Option TypeFault = cond (wrong_levels levels op.what) (Some (Levels op.line)) None in
    let of_filter : Option TypeFault = cond (refine_filter scope op.what) (Some (RefineFilter op.line)) of_levels in
    let of_lost : Option TypeFault = cond (refine_lost scope op.what last) (Some (RefineLost op.line)) of_filter in
    let of_map : Option TypeFault = cond (no_map scope op.what) (Some (NoMap op.line)) of_lost in
    let of_width : Option TypeFault = cond (too_wide scope op.what) (Some (TooWide op.line)) of_map in
    let of_columns : Option TypeFault = cond (unknown_column scope op.what) (Some (UnknownColumn op.line)) of_width in
    let a = if_none (unknown_field scope op.what) (UnknownField op.line) of_columns none in
    let b = if_none (unknown_column scope op.what) (UnknownColumn op.line) of_width a.1 in
    let c = if_none (too_wide scope op.what) (TooWide op.line) of_map b.1 in
    let d = if_none (no_map scope op.what) (NoMap op.line) of_lost c.1 in
    let lost = (if_none (refine_lost scope op.what last) (RefineLost op.line) of_filter d.1).0 in
    let test : Option Name → Bool = λ o. option_map_or (λ n. loses n op.what || ends_unmapped scope op.what last) o false in
    or_none (loses name op.what) (ends_unmapped scope op.what last) (sym (ap test carried) ∙ lost)

-- ---- the refinement field is a column of the packet rows

known_among : (cs : List Column) (name : Name) (names : List Name) → is_in name names ≡ true → AllByRecursion (IsKnown cs) names → IsKnown cs name
known_among cs name [] among known = absurd (false≢true among)
known_among cs name (n ∷ names) among known =
    by_test (same_name n name)
    (λ is. subst (IsKnown cs) (same_row_exact n name is) known.0)
    (λ isnt. known_among cs name names (sym (ap (λ b. b || is_in name names) isnt) ∙ among) known.1)

known_expr : (cs : List Column) (name : Name) (e : Expr) → is_copy name e ≡ true → AllByRecursion (IsKnown cs) (names_in e) → IsKnown cs name
known_expr cs name (Const n) is known = absurd (false≢true is)
known_expr cs name (Copy a) is known = subst (IsKnown cs) (same_row_exact a name is) known.0
known_expr cs name (Mask a bits) is known = absurd (false≢true is)
known_expr cs name (Shift a k) is known = absurd (false≢true is)
known_expr cs name (Sum a b) is known = absurd (false≢true is)
known_expr cs name (Ratio a k b) is known = absurd (false≢true is)

known_copy : (cs : List Column) (name : Name) (cols : List MapCol) → list_any (λ c. is_copy name c.expr) cols ≡ true → AllByRecursion (λ c. AllByRecursion (IsKnown cs) (names_in c.expr)) cols → IsKnown cs name
known_copy cs name [] any known = absurd (false≢true any)
known_copy cs name (c ∷ cols) any known =
    by_test (is_copy name c.expr)
    (λ is. known_expr cs name c.expr is known.0)
    (λ isnt. known_copy cs name cols (sym (ap (λ b. b || list_any (λ d. is_copy name d.expr) cols) isnt) ∙ any) known.1)

record Spared (cs : List Column) (name : Name) (w : What) : Type 0 where
  same : columns_after cs w ≡ cs
  no_map : is_map w ≡ false
  keeps : carried_after name w ≡ Some name

-- an operator reads it, or leaves it alone
read_or_kept : (cs : List Column) (name : Name) (w : What) → loses name w ≡ false → IsSound cs w → IsKnown cs name ⊎ Spared cs name w
read_or_kept cs name (what.Filter conds) kept s = inr (record { same = refl; no_map = refl; keeps = refl })
read_or_kept cs name (what.Map cols) kept s = inl (known_copy cs name cols (not_false (list_any (λ c. is_copy name c.expr) cols) kept) (all_parts (IsKnown cs) (λ (c : MapCol). names_in c.expr) cols s.known))
read_or_kept cs name what.Distinct kept s = inr (record { same = refl; no_map = refl; keeps = refl })
read_or_kept cs name (what.Reduce r) kept s = inl (known_among cs name r.keys (not_false (is_in name r.keys) kept) (all_front (IsKnown cs) r.keys (r.value ∷ []) s.known))

never : (mapped is : Bool) → mapped ≡ false → is ≡ false → (true && not mapped && not is) ≡ false → ⊥
never true is m i e = false≢true (sym m)
never false true m i e = false≢true (sym i)
never false false m i e = false≢true (sym e)

pub known_first : (levels : List ℕ) (scope : Scope) (op : Op) (ops : List Op) (name : Name) → scope.carried ≡ Some name → scope.mapped ≡ false → first_fault (operator_places levels scope (op ∷ ops)) ≡ None → AreSound scope.columns (op ∷ ops) → IsKnown scope.columns name
known_first levels scope op [] name carried m none s =
    let parts = later_none (fault_at (Operator levels scope op true)) None none in
    let lost = not_lost levels scope op true name carried parts.0 in
    elim (read_or_kept scope.columns name op.what lost.0 s.0) [ inl known ↦ known | inr admits ↦ absurd (never scope.mapped (is_map op.what) m admits.no_map lost.1) ]
known_first levels scope op (next ∷ ops) name carried m none s =
    let parts = later_none (fault_at (Operator levels scope op false)) (first_fault (operator_places levels (scope_after scope op.what) (next ∷ ops))) none in
    let lost = not_lost levels scope op false name carried parts.0 in
    elim (read_or_kept scope.columns name op.what lost.0 s.0) [
      | inl known ↦ known
      | inr admits ↦
          subst (λ (cs : List Column). IsKnown cs name) admits.same
          (known_first levels (scope_after scope op.what) next ops name (ap (λ o. carried_along o op.what) carried ∙ admits.keeps) (ap (λ b. b || is_map op.what) m ∙ admits.no_map) parts.1 s.1)
    ]
