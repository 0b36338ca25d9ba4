-- A query has a refinement field and a refinement column exactly where it has a refine line.
use Rattle.std.proofs.Common.{◌≡◌, ℕ, List, [], ◌∷◌, ◌++◌, Bool, true, false, ◌||◌, cond, is_none, is_some, Option, None, Some, refl, ap, sym, ◌∙◌}
use Rattle.std.specs.List.{AllByRecursion, flat_map, list_any}
use Rattle.std.specs.Option.{option_map, option_map_or}
use Rattle.sn_base.proofs.Lists.{by_test, not_false, or_none}
use Rattle.sn_fields.specs.Fields.{with_name}
use Rattle.sn_query_grammar.specs.declared.ast.Query.{Query}
use Rattle.sn_query_grammar.specs.declared.ast.Branch.{Branch}
use Rattle.sn_query_grammar.specs.declared.ast.Refine.{Refine}
use Rattle.sn_query_grammar.specs.declared.ast.Join.{Join}
use Rattle.sn_query_grammar.specs.declared.ast.MapCol.{MapCol}
use Rattle.sn_query_grammar.specs.declared.ast.Op.{Op}
use Rattle.sn_query_grammar.specs.declared.ast.What.{What}
use Rattle.sn_query_grammar.specs.declared.ast.What.TheVariants as what
use Rattle.sn_types_faults.specs.declared.fault.TypeFault.{TypeFault}
use Rattle.sn_types_faults.specs.declared.fault.TypeFault.TheVariants.{UnknownField, UnknownColumn, TooWide, NoMap, RefineLost, RefineFilter, Levels}
use Rattle.sn_types_faults.specs.declared.scope.Scope.{Scope}
use Rattle.sn_types_faults.specs.Names.{Name}
use Rattle.sn_types_faults.specs.Columns.{is_copy, copy_name, carried_after, place_of}
use Rattle.sn_types_faults.specs.Faults.{unknown_field, unknown_column, too_wide, no_map, loses, ends_unmapped, refine_lost, refine_filter, wrong_levels, wrong_refine, refine_fault}
use Rattle.sn_types_faults.specs.Walk.Place.{Operator, JoinLine}
use Rattle.sn_types_faults.specs.Walk.{Place, is_end, ops_at, carried_along, first_fault, fault_at, refine_places, branch_places, branch_end, join_places, query_places, operator_places, scope_after, scope_before, scope_joined, scope_end, refine_levels}
use Rattle.sn_types.specs.Typing.{after_branches, typed_query, posts_of, field_of}
use Rattle.sn_types.proofs.Sources.{none_in_both, none_in_each, later_none}
use Rattle.sn_types.proofs.Facts.{if_none}

some_of : {X : Type 0} (o : Option X) → is_none o ≡ false → is_some o ≡ true
some_of None e = cc
some_of (Some x) e = refl

some_map : {X Y : Type 0} (f : X → Y) (o : Option X) → is_some (option_map f o) ≡ is_some o
some_map f None = refl
some_map f (Some x) = refl

-- a map with a copy names it
copied_some : (name : Name) (cols : List MapCol) → list_any (λ c. is_copy name c.expr) cols ≡ true → is_some (copy_name name cols) ≡ true
copied_some name [] any = cc
copied_some name (c ∷ cols) any =
    by_test (is_copy name c.expr)
    (λ is. ap (λ b. is_some (cond b (Some c.name) (copy_name name cols))) is)
    (λ isnt. ap (λ b. is_some (cond b (Some c.name) (copy_name name cols))) isnt ∙ copied_some name cols (sym (ap (λ b. b || list_any (λ d. is_copy name d.expr) cols) isnt) ∙ any))

carried_some : (name : Name) (w : What) → loses name w ≡ false → is_some (carried_after name w) ≡ true
carried_some name (what.Filter conds) h = refl
carried_some name (what.Map cols) h = copied_some name cols (not_false (list_any (λ c. is_copy name c.expr) cols) h)
carried_some name what.Distinct h = refl
carried_some name (what.Reduce r) h = refl

carried_same : (ends : Bool) (carried : Option Name) (w : What) → option_map_or (λ name. loses name w || ends) carried false ≡ false → is_some (carried_along carried w) ≡ is_some carried
carried_same ends None w h = refl
carried_same ends (Some name) w h = carried_some name w (or_none (loses name w) ends h).0

not_lost : (levels : List ℕ) (scope : Scope) (op : Op) (last : Bool) → fault_at (Operator levels scope op last) ≡ None → refine_lost scope op.what last ≡ false
not_lost levels scope op last none =
    let of_levels : Option TypeFault = cond (wrong_levels levels op.what) (Some (Levels op.line)) None in
    let of_filter : Option TypeFault = cond (refine_filter scope op.what) (Some (RefineFilter op.line)) of_levels in
    let of_lost : Option TypeFault = cond (refine_lost scope op.what last) (Some (RefineLost op.line)) of_filter in
    let of_map : Option TypeFault = cond (no_map scope op.what) (Some (NoMap op.line)) of_lost in
    let of_width : Option TypeFault = cond (too_wide scope op.what) (Some (TooWide op.line)) of_map in
    let of_columns : Option TypeFault = cond (unknown_column scope op.what) (Some (UnknownColumn op.line)) of_width in
    let a = if_none (unknown_field scope op.what) (UnknownField op.line) of_columns none in
    let b = if_none (unknown_column scope op.what) (UnknownColumn op.line) of_width a.1 in
    let c = if_none (too_wide scope op.what) (TooWide op.line) of_map b.1 in
    let d = if_none (no_map scope op.what) (NoMap op.line) of_lost c.1 in
    (if_none (refine_lost scope op.what last) (RefineLost op.line) of_filter d.1).0

end_same : (levels : List ℕ) (scope : Scope) (ops : List Op) → first_fault (operator_places levels scope ops) ≡ None → is_some (scope_end scope ops).carried ≡ is_some scope.carried
end_same levels scope [] none = refl
end_same levels scope (op ∷ ops) none =
    let parts = later_none (fault_at (Operator levels scope op (is_end ops))) (first_fault (operator_places levels (scope_after scope op.what) ops)) none in
    end_same levels (scope_after scope op.what) ops parts.1
    ∙ carried_same (ends_unmapped scope op.what (is_end ops)) scope.carried op.what (not_lost levels scope op (is_end ops) parts.0)

field_same : (refine : Option Refine) → first_fault (refine_places refine) ≡ None → is_some (field_of refine) ≡ is_some refine
field_same None none = refl
field_same (Some r) none =
    let first = later_none (refine_fault r) None none in
    let of_levels : Option TypeFault = cond (wrong_refine r) (Some (Levels r.line)) None in
    some_of (with_name r.field) (if_none (is_none (with_name r.field)) (UnknownField r.line) of_levels first.0).0

NoFault : Option Refine → Branch → Type 0
NoFault refine b = first_fault (branch_places refine b.ops) ≡ None

left_clean : (refine : Option Refine) (branches : List Branch) → AllByRecursion (NoFault refine) branches → first_fault (branch_places refine (ops_at branches 0)) ≡ None
unfolding NoFault
left_clean refine [] h = refl
left_clean refine (b ∷ branches) h = h.0

left_same : (refine : Option Refine) (branches : List Branch) → AllByRecursion (NoFault refine) branches → is_some (branch_end refine (ops_at branches 0)).carried ≡ is_some refine
left_same refine branches h =
    end_same (refine_levels refine) (scope_before refine (ops_at branches 0)) (ops_at branches 0) (left_clean refine branches h) ∙ some_map (λ (r : Refine). r.field) refine

after_same : (refine : Option Refine) (branches : List Branch) (join : Option Join) → AllByRecursion (NoFault refine) branches → first_fault (join_places refine branches join) ≡ None
    → is_some (scope_end (after_branches refine branches join) (posts_of join)).carried ≡ is_some refine
after_same refine branches None h none = left_same refine branches h
after_same refine branches (Some j) h none =
    let left : Scope = branch_end refine (ops_at branches 0) in
    let right : Scope = branch_end refine (ops_at branches 1) in
    let parts = later_none (fault_at (JoinLine left right j)) (first_fault (operator_places (refine_levels refine) (scope_joined left right j) j.post)) none in
    end_same (refine_levels refine) (scope_joined left right j) j.post parts.1 ∙ left_same refine branches h

pub refined_alike : (q : Query) → first_fault (query_places q) ≡ None → (is_some (typed_query q).field ≡ is_some q.refine) × (is_some (typed_query q).column ≡ is_some q.refine)
unfolding NoFault
refined_alike q none =
    let branches : List Place = flat_map (λ (b : Branch). branch_places q.refine b.ops) q.branches in
    let all = none_in_both (refine_places q.refine ++ branches) (join_places q.refine q.branches q.join) none in
    let front = none_in_both (refine_places q.refine) branches all.0 in
    let end : Scope = scope_end (after_branches q.refine q.branches q.join) (posts_of q.join) in (
      field_same q.refine front.0,
      some_map (place_of end.columns) end.carried ∙ after_same q.refine q.branches q.join (none_in_each (λ (b : Branch). branch_places q.refine b.ops) q.branches front.1) all.1,
    )
