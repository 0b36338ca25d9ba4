-- A typed file keeps the counts of its text.
use Rattle.std.proofs.Common.{◌≡◌, ℕ, zero, suc, ◌<◌, ◌≤◌, List, [], ◌∷◌, map, length, true, false, not, ◌||◌, nat_lt, ◌==◌, cond, ◌⊎◌, slice_index, Option, None, Some, is_none, is_some, IfSome, inl, inr, refl, ap, sym, ◌∙◌, subst, arith}
use Rattle.std.specs.List.{AllByRecursion, list_all, list_any}
use Rattle.std.specs.Option.{option_map_or}
use Rattle.std.proofs.lemmas.Bool.Decides.{nat_tests}
use Rattle.std.proofs.lemmas.List.{length-map}
use Rattle.sn_base.proofs.Lists.{all_map, all_weaker, and_parts, not_false, or_none, all_both as both_of}
use Rattle.sn_fields.specs.declared.field.Field.{Field}
use Rattle.sn_fields.specs.Fields.{is_address, width_of, with_name}
use Rattle.sn_query_grammar.specs.declared.ast.Branch.{Branch}
use Rattle.sn_query_grammar.specs.declared.ast.Join.{Join}
use Rattle.sn_query_grammar.specs.declared.ast.Query.{Query}
use Rattle.sn_query_grammar.specs.declared.ast.Refine.{Refine}
use Rattle.sn_query_grammar.specs.Limits.{AreJoined, BranchLimits, QueryLimits, RefineLimits, Within}
use Rattle.sn_refine_laws.specs.Counts.{IsRefined, IsUnrefined, KeepsCounts, KeepsQueryCounts}
use Rattle.sn_types.specs.declared.typed_query.TypedBranch.{TypedBranch}
use Rattle.sn_types.specs.declared.typed_query.TypedQuery.{TypedQuery}
use Rattle.sn_types.specs.Typed.{IsTyped}
use Rattle.sn_base.specs.declared.column.Column.{Column}
use Rattle.sn_types.specs.Typing.{after_branches, field_of, levels_of, posts_of, typed_branch, typed_ops, typed_query}
use Rattle.sn_types.proofs.Facts.{if_none, length-typed_ops, parts_of, posts_few}
use Rattle.sn_types.proofs.RefinedLemmas.{refined_alike}
use Rattle.sn_types.proofs.Sources.{later_none, none_in_each}
use Rattle.sn_types_faults.specs.declared.fault.TypeFault.{TypeFault}
use Rattle.sn_types_faults.specs.declared.fault.TypeFault.TheVariants.{Levels, UnknownField}
use Rattle.sn_types_faults.specs.Columns.{packet_columns}
use Rattle.sn_types_faults.specs.Faults.{are_rising, out_of_range, refine_fault, wrong_field_levels, wrong_refine}
use Rattle.sn_types_faults.specs.Walk.{first_fault, query_places, refine_places}

-- ---- levels

-- of two numbers the later one is above
abbrev Rising : List ℕ → Type 0
Rising numbers = (i j : ℕ) → i < j → j < length numbers → slice_index numbers i < slice_index numbers j

below : (x y : ℕ) → nat_lt x y ≡ true → x < y
below x y e = grind (arith, nat_tests)

at_most : (x y : ℕ) → nat_lt y x ≡ false → x ≤ y
at_most x y e = grind (arith, nat_tests)

some_of : (x : ℕ) → (x == 0) ≡ false → 1 ≤ x
some_of x e = grind (arith, nat_tests)

below_all : (x : ℕ) (xs : List ℕ) (j : ℕ) → list_all (nat_lt x) xs ≡ true → j < length xs → x < slice_index xs j
below_all x [] j e lt = absurd (omega (arith, lt))
below_all x (y ∷ ys) zero e lt = below x y (and_parts (nat_lt x y) (list_all (nat_lt x) ys) e).0
below_all x (y ∷ ys) (suc j) e lt = below_all x ys j (and_parts (nat_lt x y) (list_all (nat_lt x) ys) e).1 (omega (arith, lt))

rising : (xs : List ℕ) → are_rising xs ≡ true → Rising xs
rising [] e i j before lt = absurd (omega (arith, lt))
rising (x ∷ xs) e zero zero before lt = absurd (omega (arith, before))
rising (x ∷ xs) e zero (suc j) before lt = below_all x xs j (and_parts (list_all (nat_lt x) xs) (are_rising xs) e).0 (omega (arith, lt))
rising (x ∷ xs) e (suc i) zero before lt = absurd (omega (arith, before))
rising (x ∷ xs) e (suc i) (suc j) before lt = rising xs (and_parts (list_all (nat_lt x) xs) (are_rising xs) e).1 i j (omega (arith, before)) (omega (arith, lt))

in_range : (width : ℕ) (xs : List ℕ) → list_any (out_of_range width) xs ≡ false → AllByRecursion (Within 1 width) xs
in_range width [] e = tt
in_range width (x ∷ xs) e =
    let parts = or_none (out_of_range width x) (list_any (out_of_range width) xs) e in
    let ends = or_none (x == 0) (nat_lt width x) parts.0 in
    (record { from_least = some_of x ends.0; to_most = at_most x width ends.1 }, in_range width xs parts.1)

-- levels of a field
FitField : Option Field → List ℕ → Type 0
FitField field levels = Rising levels × IfSome field (λ f. AllByRecursion (Within 1 (width_of f)) levels)

fit_field : (f : Field) (levels : List ℕ) → wrong_field_levels f levels ≡ false → FitField (Some f) levels
unfolding FitField
fit_field f levels e =
    let parts = or_none (not (is_address f) || not (are_rising levels)) (list_any (out_of_range (width_of f)) levels) e in
    let up = or_none (not (is_address f)) (not (are_rising levels)) parts.0 in
    (rising levels (not_false (are_rising levels) up.1), in_range (width_of f) levels parts.1)

known_field : (r : Refine) → refine_fault r ≡ None → (is_none (with_name r.field) ≡ false) × (wrong_refine r ≡ false)
known_field r none =
    let of_levels : Option TypeFault = cond (wrong_refine r) (Some (Levels r.line)) None in
    let a = if_none (is_none (with_name r.field)) (UnknownField r.line) of_levels none in
    let b = if_none (wrong_refine r) (Levels r.line) None a.1 in
    (a.0, b.0)

fit_named : (field : Option Field) (levels : List ℕ) → is_none field ≡ false → option_map_or (λ f. wrong_field_levels f levels) field false ≡ false → FitField field levels
fit_named None levels some e = cc
fit_named (Some f) levels some e = fit_field f levels e

-- ---- branches and the operators after a join

branch_count : (branches : List Branch) (join : Option Join) → AreJoined branches join → Within 1 2 (length branches)
branch_count branches None h = record { from_least = omega (arith, h); to_most = omega (arith, h) }
branch_count branches (Some j) h = let two = h.0 in record { from_least = omega (arith, two); to_most = omega (arith, two) }

branch_ops : (branches : List Branch) → AllByRecursion BranchLimits branches → AllByRecursion (λ (b : TypedBranch). Within 1 12 (length b.ops)) (map (λ (b : Branch). typed_branch b.ops) branches)
branch_ops branches limits =
    all_map (λ (b : TypedBranch). Within 1 12 (length b.ops)) (λ (b : Branch). typed_branch b.ops) branches
    (all_weaker BranchLimits (λ (b : Branch). Within 1 12 (length (typed_branch b.ops).ops))
    (λ b h. subst (Within 1 12) (sym (length-typed_ops (packet_columns b.ops) b.ops)) h.count) branches limits)

no_posts : (columns : List Column) (branches : List Branch) (join : Option Join) → AreJoined branches join → length branches ≡ 1 → typed_ops columns (posts_of join) ≡ []
no_posts columns branches None h one = refl
no_posts columns branches (Some j) h one = let two = h.0 in absurd (omega (arith, one, two))

-- ---- queries

refined_or_not : (refine : Option Refine) (t : TypedQuery) → IfSome refine RefineLimits → first_fault (refine_places refine) ≡ None → t.levels ≡ levels_of refine → t.field ≡ field_of refine
    → is_some t.field ≡ is_some refine → is_some t.column ≡ is_some refine → IsUnrefined t ⊎ IsRefined t
unfolding FitField
refined_or_not None t limits none levels field some_field some_column = inl (record { levels = levels; field = some_field; column = some_column })
refined_or_not (Some r) t limits none levels field some_field some_column =
    let known = known_field r (later_none (refine_fault r) None none).0 in
    let fit = fit_named (with_name r.field) r.levels known.0 known.1 in
    inr (record {
      count = subst (λ (ls : List ℕ). Within 1 4 (length ls)) (sym levels) limits.count;
      rising = subst Rising (sym levels) fit.0;
      width = subst (λ (o : Option Field). IfSome o (λ f. AllByRecursion (Within 1 (width_of f)) t.levels)) (sym field)
          (subst (λ (ls : List ℕ). IfSome (with_name r.field) (λ f. AllByRecursion (Within 1 (width_of f)) ls)) (sym levels) fit.1);
      field = some_field;
      column = some_column;
    })

query_counts : (q : Query) → QueryLimits q → first_fault (query_places q) ≡ None → KeepsQueryCounts (typed_query q)
query_counts q limits none =
    let columns : List Column = (after_branches q.refine q.branches q.join).columns in
    let count = length-map q.branches (λ (b : Branch). typed_branch b.ops) in
    let alike = refined_alike q none in
    record {
      branches = subst (Within 1 2) (sym count) (branch_count q.branches q.join limits.joined);
      ops = branch_ops q.branches limits.branches;
      posts = subst (λ (n : ℕ). n ≤ 12) (sym (length-typed_ops columns (posts_of q.join))) (posts_few q.branches q.join limits.joined);
      joined = λ one. no_posts columns q.branches q.join limits.joined (sym count ∙ one);
      refined = refined_or_not q.refine (typed_query q) limits.refine (parts_of q none).0 refl refl alike.0 alike.1;
    }

pub counts : (window : ℕ) (queries : List TypedQuery) → IsTyped window queries → KeepsCounts window queries
counts window queries t =
    let NoFault : Query → Type 0 = λ q. first_fault (query_places q) ≡ None in
    record {
      width = subst (Within 1 3600000000) (sym t.1.same_window) t.1.limits.window;
      count = subst (Within 1 8) (sym (ap length t.1.same_queries ∙ length-map t.0.queries typed_query)) t.1.limits.count;
      each = subst (AllByRecursion KeepsQueryCounts) (sym t.1.same_queries)
          (all_map KeepsQueryCounts typed_query t.0.queries
          (all_weaker (λ q. QueryLimits q × NoFault q) (λ q. KeepsQueryCounts (typed_query q)) (λ q both. query_counts q both.0 both.1) t.0.queries
          (both_of QueryLimits NoFault t.0.queries t.1.limits.each (none_in_each query_places t.0.queries t.1.no_fault))));
    }
