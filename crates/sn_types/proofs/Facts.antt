-- What the invariant of a typed file gives of its parts.
use Rattle.std.proofs.Common.{◌≡◌, ℕ, suc, ◌<◌, ◌≤◌, List, [], ◌∷◌, ◌++◌, length, Bool, true, false, not, ◌||◌, ◌&&◌, cond, nat_eq, nat_lt, ◌==◌, is_none, Option, None, Some, IfSome, slice_get, unwrap_or, refl, ap, sym, ◌∙◌, subst, arith, append-nil, append_assoc, lit≤}
use Rattle.std.proofs.lemmas.List.{length-map}
use Rattle.std.proofs.Math.Bridge.{le_prop}
use Rattle.std.proofs.Math.Logic.{∥∥₁_elim}
use Rattle.std.specs.List.{AllByRecursion, flat_map, list_any}
use Rattle.std.specs.Option.{option_map_or}
use Rattle.sn_base.proofs.Lists.{by_test, nat_same, or_none, all_both as both_of}
use Rattle.sn_base.specs.declared.column.Column.{Column}
use Rattle.sn_fields.specs.declared.field.Field.{Field}
use Rattle.sn_fields.specs.Fields.{with_name, width_of, is_address}
use Rattle.sn_query_grammar.specs.declared.ast.Query.{Query}
use Rattle.sn_query_grammar.specs.declared.ast.Branch.{Branch}
use Rattle.sn_query_grammar.specs.declared.ast.Refine.{Refine}
use Rattle.sn_query_grammar.specs.declared.ast.Join.{Join}
use Rattle.sn_query_grammar.specs.declared.ast.Op.{Op}
use Rattle.sn_types_faults.specs.declared.fault.TypeFault.{TypeFault}
use Rattle.sn_types_faults.specs.declared.scope.Scope.{Scope}
use Rattle.sn_types_faults.specs.Names.{fields_among, packet_fields, names_read, names_to_map, is_map, needs_map}
use Rattle.sn_types_faults.specs.declared.fault.TypeFault.TheVariants.{UnknownField, UnknownColumn, TooWide, NoMap, RefineLost, RefineFilter, Levels}
use Rattle.sn_types_faults.specs.Columns.{columns_after, packet_columns}
use Rattle.sn_types_faults.specs.Faults.{unknown_field, unknown_column, too_wide, no_map, refine_lost, refine_filter, wrong_levels, wide_fold, wide_operands, are_rising, wrong_refine, wrong_field_levels, out_of_range, refine_fault}
use Rattle.sn_query_grammar.specs.Limits.{BranchLimits, BranchOp, AreJoined, Within}
use Rattle.sn_types_faults.specs.Walk.Place.{Operator}
use Rattle.sn_types_faults.specs.Walk.{Place, is_end, first_fault, fault_at, refine_places, branch_places, join_places, query_places, operator_places, scope_after, scope_before, refine_levels}
use Rattle.sn_types.specs.declared.typed_query.TypedBranch.{TypedBranch}
use Rattle.sn_types.specs.declared.typed_query.TypedQuery.{TypedQuery}
use Rattle.sn_types.specs.Typing.{after_branches, typed_ops, typed_branch, typed_query, posts_of, levels_of, field_of}
use Rattle.sn_types.specs.Typed.{IsTyped, blank_branch, query_at, branch_at}
use Rattle.sn_types.proofs.Sources.{source_of, none_in_both, none_in_each, later_none, item_at}
use Rattle.sn_base.proofs.Tests.{not_less_is}

-- ---- tests that fail

pub some_none : {X : Type 0} {x : X} → Some x ≡ None → ⊥
some_none e = cc

pub if_none : (b : Bool) (f : TypeFault) (o : Option TypeFault) → cond b (Some f) o ≡ None → (b ≡ false) × (o ≡ None)
if_none true f o e = absurd (some_none e)
if_none false f o e = (refl, e)

-- before the first map no test of a ninth field holds, and no operator needs a map
few_now : (mapped needs narrow : Bool) (count : ℕ) → mapped ≡ false → ((not mapped && not needs) && nat_lt 8 count || (mapped && narrow)) ≡ false → (not mapped && needs) ≡ false → count ≤ 8
few_now true needs narrow count m wide none = cc
few_now false true narrow count m wide none = cc
few_now false false narrow count m wide none = not_less_is 8 count (or_none (nat_lt 8 count) false wide).0

-- ---- at most eight fields

few_here : (levels : List ℕ) (scope : Scope) (op : Op) (last : Bool) → scope.mapped ≡ false → fault_at (Operator levels scope op last) ≡ None
    → length (fields_among (scope.read ++ names_read op.what)) ≤ 8
few_here levels scope op last m none =
    let of_levels : Option TypeFault = cond (wrong_levels levels op.what) (Some (Levels op.line)) None in
    let of_filter : Option TypeFault = cond (refine_filter scope op.what) (Some (RefineFilter op.line)) of_levels in
    let of_lost : Option TypeFault = cond (refine_lost scope op.what last) (Some (RefineLost op.line)) of_filter in
    let of_map : Option TypeFault = cond (no_map scope op.what) (Some (NoMap op.line)) of_lost in
    let of_width : Option TypeFault = cond (too_wide scope op.what) (Some (TooWide op.line)) of_map in
    let of_columns : Option TypeFault = cond (unknown_column scope op.what) (Some (UnknownColumn op.line)) of_width in
    let a = if_none (unknown_field scope op.what) (UnknownField op.line) of_columns none in
    let b = if_none (unknown_column scope op.what) (UnknownColumn op.line) of_width a.1 in
    let c = if_none (too_wide scope op.what) (TooWide op.line) of_map b.1 in
    let d = if_none (no_map scope op.what) (NoMap op.line) of_lost c.1 in
    few_now scope.mapped (needs_map op.what) (wide_fold scope.columns op.what || wide_operands scope.columns op.what) (length (fields_among (scope.read ++ names_read op.what))) m c.0 d.0

few_along : (levels : List ℕ) (scope : Scope) (ops : List Op) → scope.mapped ≡ false → length (fields_among scope.read) ≤ 8
    → first_fault (operator_places levels scope ops) ≡ None → length (fields_among (scope.read ++ names_to_map ops)) ≤ 8
few_along levels scope [] m few none = subst (λ (ns : List (List ℕ)). length (fields_among ns) ≤ 8) (sym (append-nil scope.read)) few
few_along levels scope (op ∷ ops) m few none =
    let parts = later_none (fault_at (Operator levels scope op (is_end ops))) (first_fault (operator_places levels (scope_after scope op.what) ops)) none in
    let now = few_here levels scope op (is_end ops) m parts.0 in
    let P : List (List ℕ) → Type 0 = λ ns. length (fields_among ns) ≤ 8 in
    by_test (is_map op.what)
    (λ is. subst P (sym (ap (λ b. scope.read ++ (names_read op.what ++ cond b [] (names_to_map ops))) is ∙ ap (λ ns. scope.read ++ ns) (append-nil (names_read op.what)))) now)
    (λ isnt. subst P (append_assoc scope.read (names_read op.what) (names_to_map ops) ∙ sym (ap (λ b. scope.read ++ (names_read op.what ++ cond b [] (names_to_map ops))) isnt))
    (few_along levels (scope_after scope op.what) ops (ap (λ b. b || is_map op.what) m ∙ isnt) now parts.1))

none_among : length (fields_among []) ≤ 8
unfolding fields_among
none_among = lit≤ tt

pub few_packet_fields : (refine : Option Refine) (ops : List Op) → first_fault (branch_places refine ops) ≡ None → length (packet_fields ops) ≤ 8
few_packet_fields refine ops none = few_along (refine_levels refine) (scope_before refine ops) ops refl none_among none

-- ---- levels

any_excludes : (p : ℕ → Bool) (xs : List ℕ) (x : ℕ) → list_any p xs ≡ false → list_any (nat_eq x) xs ≡ true → p x ≡ false
any_excludes p [] x none among = cc
any_excludes p (y ∷ ys) x none among =
    let parts = or_none (p y) (list_any p ys) none in
    by_test (nat_eq x y)
    (λ same. ap p (nat_same x y same) ∙ parts.0)
    (λ other. any_excludes p ys x parts.1 (sym (ap (λ b. b || list_any (nat_eq x) ys) other) ∙ among))

level_at : (o : Option Field) (levels : List ℕ) (level : ℕ) → option_map_or (λ f. wrong_field_levels f levels) o false ≡ false → list_any (nat_eq level) levels ≡ true → IfSome o (λ g. level ≤ width_of g)
level_at None levels level e among = tt
level_at (Some g) levels level e among =
    let bad = or_none (not (is_address g) || not (are_rising levels)) (list_any (out_of_range (width_of g)) levels) e in
    let out = any_excludes (out_of_range (width_of g)) levels level bad.1 among in
    not_less_is (width_of g) level (or_none (level == 0) (nat_lt (width_of g) level) out).1

pub level_fits : (refine : Option Refine) (level : ℕ) → first_fault (refine_places refine) ≡ None → list_any (nat_eq level) (levels_of refine) ≡ true → IfSome (field_of refine) (λ g. level ≤ width_of g)
level_fits None level none among = tt
level_fits (Some r) level none among =
    let first = later_none (refine_fault r) None none in
    let of_levels : Option TypeFault = cond (wrong_refine r) (Some (Levels r.line)) None in
    let a = if_none (is_none (with_name r.field)) (UnknownField r.line) of_levels first.0 in
    let b = if_none (wrong_refine r) (Levels r.line) None a.1 in
    level_at (with_name r.field) r.levels level b.0 among

-- ---- where a branch comes from

pub parts_of : (q : Query) → first_fault (query_places q) ≡ None → (first_fault (refine_places q.refine) ≡ None) × (first_fault (flat_map (λ (x : Branch). branch_places q.refine x.ops) q.branches) ≡ None)
parts_of q none =
    let branches : List Place = flat_map (λ (x : Branch). branch_places q.refine x.ops) q.branches in
    none_in_both (refine_places q.refine) branches (none_in_both (refine_places q.refine ++ branches) (join_places q.refine q.branches q.join) none).0

pub record BranchSource (queries : List TypedQuery) (q b : ℕ) : Type 0 where
  pub ops : List Op
  pub refine : Option Refine
  pub count : Within 1 12 (length ops)
  pub each : AllByRecursion (λ op. BranchOp op.what) ops
  pub no_fault : first_fault (branch_places refine ops) ≡ None
  pub is : branch_at queries q b ≡ typed_branch ops
  pub field : (query_at queries q).field ≡ field_of refine

pub branch_source_of : (window : ℕ) (queries : List TypedQuery) (q b : ℕ) → IsTyped window queries → q < length queries → b < length (query_at queries q).branches → BranchSource queries q b
branch_source_of window queries q b t lt within =
    let s = source_of window queries q t lt in
    let branches = ap (λ (x : TypedQuery). x.branches) s.is in
    let front = parts_of s.query s.no_fault in
    let none = none_in_each (λ (x : Branch). branch_places s.query.refine x.ops) s.query.branches front.1 in
    let P : Branch → Type 0 = λ x. BranchLimits x × (first_fault (branch_places s.query.refine x.ops) ≡ None) in
    let got = item_at (λ (x : Branch). typed_branch x.ops) P blank_branch s.query.branches b (both_of BranchLimits (λ x. first_fault (branch_places s.query.refine x.ops) ≡ None) s.query.branches s.limits.branches none)
    (subst (λ (bs : List TypedBranch). b < length bs) branches within) in
    record {
      ops = got.0.ops;
      refine = s.query.refine;
      count = got.1.0.count;
      each = got.1.0.each;
      no_fault = got.1.1;
      is = ap (λ (bs : List TypedBranch). unwrap_or (slice_get bs b) blank_branch) branches ∙ got.2;
      field = ap (λ (x : TypedQuery). x.field) s.is;
    }

-- ---- counts

pub length-typed_ops : (columns : List Column) (ops : List Op) → length (typed_ops columns ops) ≡ length ops
length-typed_ops columns [] = refl
length-typed_ops columns (op ∷ ops) = ap suc (length-typed_ops (columns_after columns op.what) ops)

pub window_small : (window : ℕ) (queries : List TypedQuery) → ∥ IsTyped window queries ∥₁ → window ≤ 3600000000
window_small window queries t = ∥∥₁_elim t le_prop (λ t. let same = t.1.same_window in let most = t.1.limits.window.to_most in omega (arith, same, most))

pub few_queries : (window : ℕ) (queries : List TypedQuery) → ∥ IsTyped window queries ∥₁ → length queries ≤ 8
few_queries window queries t =
    ∥∥₁_elim t le_prop (λ t. let same = ap length t.1.same_queries ∙ length-map t.0.queries typed_query in let most = t.1.limits.count.to_most in omega (arith, same, most))

pub joined_few : (branches : List Branch) (join : Option Join) → AreJoined branches join → length branches ≤ 2
joined_few branches None h = omega (arith, h)
joined_few branches (Some j) h = omega (arith, h.0)

pub posts_few : (branches : List Branch) (join : Option Join) → AreJoined branches join → length (posts_of join) ≤ 12
posts_few branches None h = lit≤ tt
posts_few branches (Some j) h = h.1.posts

pub few_branches : (window : ℕ) (queries : List TypedQuery) (q : ℕ) → ∥ IsTyped window queries ∥₁ → q < length queries → length (query_at queries q).branches ≤ 2
few_branches window queries q t lt =
    ∥∥₁_elim t le_prop (λ t.
    let s = source_of window queries q t lt in
    let same = ap (λ (x : TypedQuery). length x.branches) s.is ∙ length-map s.query.branches (λ (x : Branch). typed_branch x.ops) in
    let most = joined_few s.query.branches s.query.join s.limits.joined in
    omega (arith, same, most))

pub few_posts : (window : ℕ) (queries : List TypedQuery) (q : ℕ) → ∥ IsTyped window queries ∥₁ → q < length queries → length (query_at queries q).posts ≤ 12
few_posts window queries q t lt =
    ∥∥₁_elim t le_prop (λ t.
    let s = source_of window queries q t lt in
    let same = ap (λ (x : TypedQuery). length x.posts) s.is ∙ length-typed_ops (after_branches s.query.refine s.query.branches s.query.join).columns (posts_of s.query.join) in
    let most = posts_few s.query.branches s.query.join s.limits.joined in
    omega (arith, same, most))

pub few_ops : (window : ℕ) (queries : List TypedQuery) (q b : ℕ) → ∥ IsTyped window queries ∥₁ → q < length queries → b < length (query_at queries q).branches → length (branch_at queries q b).ops ≤ 12
few_ops window queries q b t lt within =
    ∥∥₁_elim t le_prop (λ t.
    let s = branch_source_of window queries q b t lt within in
    let same = ap (λ (x : TypedBranch). length x.ops) s.is ∙ length-typed_ops (packet_columns s.ops) s.ops in
    let most = s.count.to_most in
    omega (arith, same, most))

pub few_fields : (window : ℕ) (queries : List TypedQuery) (q b : ℕ) → ∥ IsTyped window queries ∥₁ → q < length queries → b < length (query_at queries q).branches → length (branch_at queries q b).fields ≤ 8
few_fields window queries q b t lt within =
    ∥∥₁_elim t le_prop (λ t.
    let s = branch_source_of window queries q b t lt within in
    let same = ap (λ (x : TypedBranch). length x.fields) s.is in
    let most = few_packet_fields s.refine s.ops s.no_fault in
    omega (arith, same, most))

if_some_prop : {X : Type 0} (P : X → Type 0) → ((x : X) → IsProp (P x)) → (o : Option X) → IsProp (IfSome o P)
if_some_prop P each None = λ x y. refl
if_some_prop P each (Some x) = each x

pub level_of_field : (window : ℕ) (queries : List TypedQuery) (q level : ℕ) → ∥ IsTyped window queries ∥₁ → q < length queries → list_any (nat_eq level) (query_at queries q).levels ≡ true
    → IfSome (query_at queries q).field (λ g. level ≤ width_of g)
level_of_field window queries q level t lt among =
    ∥∥₁_elim t (if_some_prop (λ g. level ≤ width_of g) (λ g. le_prop) (query_at queries q).field) (λ t.
    let s = source_of window queries q t lt in
    let front = parts_of s.query s.no_fault in
    let here : list_any (nat_eq level) (levels_of s.query.refine) ≡ true = ap (λ (x : TypedQuery). list_any (nat_eq level) x.levels) (sym s.is) ∙ among in
    subst (λ (o : Option Field). IfSome o (λ g. level ≤ width_of g)) (ap (λ (x : TypedQuery). x.field) (sym s.is)) (level_fits s.query.refine level front.0 here))
