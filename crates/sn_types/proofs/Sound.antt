-- What holds of each operator of a file without a fault: its names are columns of the rows that come to it, and it keeps
-- the limits.
use Rattle.std.proofs.Common.{◌≡◌, ℕ, ◌≤◌, List, [], ◌∷◌, ◌++◌, map, length, Bool, true, false, not, ◌||◌, ◌&&◌, cond, is_none, Option, None, Some, refl, ap, sym, ◌∙◌, subst}
use Rattle.std.specs.List.{AllByRecursion, list_any}
use Rattle.sn_base.proofs.Lists.{by_test, or_right, all_weaker, all_append, or_none, none_all as fails_for_each, all_front, all_rest as all_back}
use Rattle.sn_base.specs.declared.column.Column.{Column}
use Rattle.sn_base.specs.Groups.{Apart, same_row}
use Rattle.sn_fields.specs.Fields.{with_name}
use Rattle.sn_query_grammar.specs.declared.ast.Branch.{Branch}
use Rattle.sn_query_grammar.specs.declared.ast.Refine.{Refine}
use Rattle.sn_query_grammar.specs.declared.ast.Join.{Join}
use Rattle.sn_query_grammar.specs.declared.ast.Op.{Op}
use Rattle.sn_query_grammar.specs.declared.ast.Expr.{Expr}
use Rattle.sn_query_grammar.specs.declared.ast.Expr.TheVariants.{Const, Copy, Mask, Shift, Sum, Ratio}
use Rattle.sn_query_grammar.specs.declared.ast.What.{What}
use Rattle.sn_query_grammar.specs.declared.ast.What.TheVariants as what
use Rattle.sn_types_faults.specs.declared.fault.TypeFault.{TypeFault}
use Rattle.sn_types_faults.specs.declared.fault.TypeFault.TheVariants.{UnknownField, UnknownColumn, TooWide, NoMap, RefineLost, RefineFilter, Levels}
use Rattle.sn_types_faults.specs.declared.scope.Scope.{Scope}
use Rattle.sn_types_faults.specs.Names.{Name, names_read, names_to_map, is_map, needs_map}
use Rattle.sn_types_faults.specs.Columns.{has_column, columns_after, packet_columns}
use Rattle.sn_types_faults.specs.Faults.{unknown_field, unknown_column, ninth_field, wide_fold, wide_operands, too_wide, no_map, refine_lost, refine_filter, wrong_levels}
use Rattle.sn_query_grammar.specs.Limits.{AreJoined, BranchOp, PostOp, IsBranchExpr, IsPostExpr, ReduceLimits}
use Rattle.sn_types_faults.specs.Walk.Place.{Operator, JoinLine}
use Rattle.sn_types_faults.specs.Walk.{is_end, ops_at, first_fault, fault_at, branch_places, branch_end, join_places, operator_places, scope_after, scope_before, scope_joined, refine_levels}
use Rattle.sn_types.specs.Typing.{after_branches, posts_of}
use Rattle.sn_types.proofs.Sources.{later_none}
use Rattle.sn_types.proofs.Facts.{if_none, few_packet_fields}
use Rattle.sn_types.proofs.Known.{IsKnown, packet_known, holds_for_each}

-- ---- limits

-- those that an operator of a branch and one after a join keep
abbrev pub OpLimits : What → Type 0
OpLimits (what.Filter conds) = Unit {0}
OpLimits (what.Map cols) = (length cols ≤ 8) × Apart same_row (map (λ c. c.name) cols) × AllByRecursion (λ c. IsPostExpr c.expr) cols
OpLimits what.Distinct = Unit {0}
OpLimits (what.Reduce r) = ReduceLimits r

branch_expr : (e : Expr) → IsBranchExpr e → IsPostExpr e
branch_expr (Const n) h = h
branch_expr (Copy a) h = tt
branch_expr (Mask a bits) h = tt
branch_expr (Shift a k) h = h
branch_expr (Sum a b) h = tt
branch_expr (Ratio a k b) h = tt

branch_limits : (w : What) → BranchOp w → OpLimits w
branch_limits (what.Filter conds) h = tt
branch_limits (what.Map cols) h = (h.0.to_most, h.1, all_weaker (λ c. IsBranchExpr c.expr) (λ c. IsPostExpr c.expr) (λ c. branch_expr c.expr) cols h.2)
branch_limits what.Distinct h = tt
branch_limits (what.Reduce r) h = h

post_limits : (w : What) → PostOp w → OpLimits w
post_limits (what.Filter conds) h = tt
post_limits (what.Map cols) h = (h.0.to_most, h.1, h.2)
post_limits what.Distinct h = tt
post_limits (what.Reduce r) h = absurd h

-- ---- operators

pub record IsSound (columns : List Column) (w : What) : Type 0 where
  pub known : AllByRecursion (IsKnown columns) (names_read w)
  pub limits : OpLimits w
  pub narrow : wide_fold columns w ≡ false

abbrev pub AreSound : List Column → List Op → Type 0
AreSound columns [] = Unit {0}
AreSound columns (op ∷ ops) = IsSound columns op.what × AreSound (columns_after columns op.what) ops

-- what an operator without a fault doesn't have
record Clean (scope : Scope) (op : Op) : Type 0 where
  no_unknown_field : unknown_field scope op.what ≡ false
  no_unknown_column : unknown_column scope op.what ≡ false
  narrow : too_wide scope op.what ≡ false
  map_stands : no_map scope op.what ≡ false

clean_of : (levels : List ℕ) (scope : Scope) (op : Op) (last : Bool) → fault_at (Operator levels scope op last) ≡ None → Clean scope op
clean_of levels scope op last none =
    let of_levels : Option TypeFault = cond (wrong_levels levels op.what) (Some (Levels op.line)) None in
    let of_filter : Option TypeFault = cond (refine_filter scope op.what) (Some (RefineFilter op.line)) of_levels in
    let of_lost : Option TypeFault = cond (refine_lost scope op.what last) (Some (RefineLost op.line)) of_filter in
    let of_map : Option TypeFault = cond (no_map scope op.what) (Some (NoMap op.line)) of_lost in
    let of_width : Option TypeFault = cond (too_wide scope op.what) (Some (TooWide op.line)) of_map in
    let of_columns : Option TypeFault = cond (unknown_column scope op.what) (Some (UnknownColumn op.line)) of_width in
    let a = if_none (unknown_field scope op.what) (UnknownField op.line) of_columns none in
    let b = if_none (unknown_column scope op.what) (UnknownColumn op.line) of_width a.1 in
    let c = if_none (too_wide scope op.what) (TooWide op.line) of_map b.1 in
    let d = if_none (no_map scope op.what) (NoMap op.line) of_lost c.1 in
    record { no_unknown_field = a.0; no_unknown_column = b.0; narrow = c.0; map_stands = d.0 }

when_mapped : (mapped b : Bool) → mapped ≡ true → (mapped && b) ≡ false → b ≡ false
when_mapped true b m e = e
when_mapped false b m e = cc

no_need : (mapped needs : Bool) → mapped ≡ false → (not mapped && needs) ≡ false → needs ≡ false
no_need true needs m e = cc
no_need false needs m e = e

when_unmapped : (mapped needs b : Bool) → mapped ≡ false → ((not mapped && not needs) && b) ≡ false → (not mapped && needs) ≡ false → b ≡ false
when_unmapped true needs b m e f = cc
when_unmapped false true b m e f = cc
when_unmapped false false b m e f = e

-- ---- after the first map

along_mapped : (levels : List ℕ) (scope : Scope) (ops : List Op) → scope.mapped ≡ true → AllByRecursion (λ op. OpLimits op.what) ops
    → first_fault (operator_places levels scope ops) ≡ None → AreSound scope.columns ops
along_mapped levels scope [] m s none = tt
along_mapped levels scope (op ∷ ops) m s none =
    let parts = later_none (fault_at (Operator levels scope op (is_end ops))) (first_fault (operator_places levels (scope_after scope op.what) ops)) none in
    let clean = clean_of levels scope op (is_end ops) parts.0 in
    let known = when_mapped scope.mapped (list_any (λ n. not (has_column scope.columns n)) (names_read op.what)) m clean.no_unknown_column in
    let both : Bool = wide_fold scope.columns op.what || wide_operands scope.columns op.what in
    let wide = when_mapped scope.mapped both m (or_none (ninth_field scope op.what) (scope.mapped && both) clean.narrow).1 in (
      record {
        known = holds_for_each (has_column scope.columns) (names_read op.what) known;
        limits = s.0;
        narrow = (or_none (wide_fold scope.columns op.what) (wide_operands scope.columns op.what) wide).0;
      },
      along_mapped levels (scope_after scope op.what) ops (ap (λ b. b || is_map op.what) m) s.1 parts.1,
    )

-- ---- up to and with the first map

fields_known : (levels : List ℕ) (scope : Scope) (ops : List Op) → scope.mapped ≡ false → first_fault (operator_places levels scope ops) ≡ None
    → AllByRecursion (λ n. is_none (with_name n) ≡ false) (names_to_map ops)
fields_known levels scope [] m none = tt
fields_known levels scope (op ∷ ops) m none =
    let parts = later_none (fault_at (Operator levels scope op (is_end ops))) (first_fault (operator_places levels (scope_after scope op.what) ops)) none in
    let clean = clean_of levels scope op (is_end ops) parts.0 in
    let P : Name → Type 0 = λ n. is_none (with_name n) ≡ false in
    let here : AllByRecursion P (names_read op.what) =
    fails_for_each (λ (n : Name). is_none (with_name n)) (names_read op.what)
    (when_unmapped scope.mapped (needs_map op.what) (list_any (λ n. is_none (with_name n)) (names_read op.what)) m clean.no_unknown_field clean.map_stands) in
    let All : List Name → Type 0 = λ ns. AllByRecursion P ns in
    by_test (is_map op.what)
    (λ is. subst All (sym (ap (λ b. names_read op.what ++ cond b [] (names_to_map ops)) is)) (all_append P (names_read op.what) [] here tt))
    (λ isnt. subst All (sym (ap (λ b. names_read op.what ++ cond b [] (names_to_map ops)) isnt))
    (all_append P (names_read op.what) (names_to_map ops) here (fields_known levels (scope_after scope op.what) ops (ap (λ b. b || is_map op.what) m ∙ isnt) parts.1)))

-- an operator that is no map and needs none leaves the columns alone
unchanged : (columns : List Column) (w : What) → is_map w ≡ false → needs_map w ≡ false → columns_after columns w ≡ columns
unchanged columns (what.Filter conds) i n = refl
unchanged columns (what.Map cols) i n = cc
unchanged columns what.Distinct i n = refl
unchanged columns (what.Reduce r) i n = cc

-- before the first map there is no sum
no_sum : (columns : List Column) (w : What) → needs_map w ≡ false → wide_fold columns w ≡ false
no_sum columns (what.Filter conds) n = refl
no_sum columns (what.Map cols) n = refl
no_sum columns what.Distinct n = refl
no_sum columns (what.Reduce r) n = cc

along_unmapped : (levels : List ℕ) (scope : Scope) (ops : List Op) → scope.mapped ≡ false → AllByRecursion (λ op. OpLimits op.what) ops
    → first_fault (operator_places levels scope ops) ≡ None → AllByRecursion (IsKnown scope.columns) (names_to_map ops) → AreSound scope.columns ops
along_unmapped levels scope [] m s none known = tt
along_unmapped levels scope (op ∷ ops) m s none known =
    let parts = later_none (fault_at (Operator levels scope op (is_end ops))) (first_fault (operator_places levels (scope_after scope op.what) ops)) none in
    let clean = clean_of levels scope op (is_end ops) parts.0 in
    let later : List Name = cond (is_map op.what) [] (names_to_map ops) in
    let here = all_front (IsKnown scope.columns) (names_read op.what) later known in
    let rest : AllByRecursion (IsKnown scope.columns) (cond (is_map op.what) [] (names_to_map ops)) = all_back (IsKnown scope.columns) (names_read op.what) later known in (
      record { known = here; limits = s.0; narrow = no_sum scope.columns op.what (no_need scope.mapped (needs_map op.what) m clean.map_stands) },
      by_test (is_map op.what)
          (λ is. along_mapped levels (scope_after scope op.what) ops (or_right scope.mapped (is_map op.what) is) s.1 parts.1)
          (λ isnt. let same = unchanged scope.columns op.what isnt (no_need scope.mapped (needs_map op.what) m clean.map_stands) in
          along_unmapped levels (scope_after scope op.what) ops (ap (λ b. b || is_map op.what) m ∙ isnt) s.1 parts.1
          (subst (λ (columns : List Column). AllByRecursion (IsKnown columns) (names_to_map ops)) (sym same)
          (subst (λ (b : Bool). AllByRecursion (IsKnown scope.columns) (cond b [] (names_to_map ops))) isnt rest))),
    )

-- ---- branches, and after a join

pub sound_branch : (refine : Option Refine) (ops : List Op) → AllByRecursion (λ op. BranchOp op.what) ops → first_fault (branch_places refine ops) ≡ None → AreSound (packet_columns ops) ops
sound_branch refine ops each none =
    let few = few_packet_fields refine ops none in
    let limits = all_weaker (λ (op : Op). BranchOp op.what) (λ op. OpLimits op.what) (λ op. branch_limits op.what) ops each in
    along_unmapped (refine_levels refine) (scope_before refine ops) ops refl limits none (packet_known ops few (fields_known (refine_levels refine) (scope_before refine ops) ops refl none))

pub sound_posts : (refine : Option Refine) (branches : List Branch) (join : Option Join) → AreJoined branches join → first_fault (join_places refine branches join) ≡ None
    → AreSound (after_branches refine branches join).columns (posts_of join)
sound_posts refine branches None h none = tt
sound_posts refine branches (Some j) h none =
    let left : Scope = branch_end refine (ops_at branches 0) in
    let right : Scope = branch_end refine (ops_at branches 1) in
    let parts = later_none (fault_at (JoinLine left right j)) (first_fault (operator_places (refine_levels refine) (scope_joined left right j) j.post)) none in
    let limits = all_weaker (λ (op : Op). PostOp op.what) (λ op. OpLimits op.what) (λ op. post_limits op.what) j.post h.1.each in
    along_mapped (refine_levels refine) (scope_joined left right j) j.post refl limits parts.1
