-- The law of the split at whole queries.
use Rattle.std.proofs.Common.{◌≡◌, ℕ, ◌<◌, ◌==◌, List, [], ◌∷◌, map, length, Bool, cond, Option, None, Some, sym, subst, arith}
use Rattle.std.proofs.Math.Logic.{∥∥₁_elim}
use Rattle.std.specs.List.{AllByRecursion}
use Rattle.sn_base.specs.Bags.{SameBag}
use Rattle.sn_base.specs.Groups.{Row}
use Rattle.sn_base.specs.Operators.{Op as Acting, Had, through}
use Rattle.sn_base.specs.Sorted.{sorted_rows}
use Rattle.sn_base.specs.declared.column.Column.{Column}
use Rattle.sn_base.proofs.BagLemmas.{bag_back}
use Rattle.sn_base.proofs.Lists.{by_test, nat_same}
use Rattle.sn_base.proofs.OperatorLemmas.{AllOf, join_bag, through_bag}
use Rattle.sn_base.proofs.SortLemmas.{sort_bag}
use Rattle.sn_query_grammar.specs.declared.ast.Branch.{Branch}
use Rattle.sn_query_grammar.specs.declared.ast.Join.{Join}
use Rattle.sn_query_grammar.specs.declared.ast.Op.{Op}
use Rattle.sn_query_grammar.specs.declared.ast.Query.{Query}
use Rattle.sn_query_grammar.specs.declared.ast.Refine.{Refine}
use Rattle.sn_query_grammar.specs.declared.ast.What.{What}
use Rattle.sn_query_grammar.specs.declared.ast.What.TheVariants as what
use Rattle.sn_types_faults.specs.Columns.{columns_after}
use Rattle.sn_query_grammar.specs.Limits.{AreJoined, PostOp}
use Rattle.sn_types.specs.declared.typed_op.JoinKey.{JoinKey}
use Rattle.sn_types.specs.declared.typed_query.TypedQuery.{TypedQuery}
use Rattle.sn_types.specs.Typed.{IsTyped, HasWidths, query_at, branch_at}
use Rattle.sn_types.specs.Typing.{after_branches, posts_of, typed_op, typed_ops}
use Rattle.sn_types.specs.Values.{op_at}
use Rattle.sn_types.proofs.Sources.{source_of}
use Rattle.sn_ops.specs.Joins.{lefts, rights, meets, both, joined}
use Rattle.sn_ops.specs.Plain.{branch_rows, joined_rows, query_rows}
use Rattle.sn_ops.specs.declared.packets.Kept.{Kept}
use Rattle.sn_ops.proofs.PacketSteps.{some_branch}
use Rattle.sn_report.specs.Items.{Item}
use Rattle.sn_engine_split.specs.Branches.{branch_value, query_value, AreSplit, IsItemOf}
use Rattle.sn_engine_split.proofs.Typed.{bags, had_prop, split}

-- ---- after a join stand filters and maps alone

post_had : (level : ℕ) (columns : List Column) (w : What) (rest : List Acting) → PostOp w → ((next : Row) → Had rest next) → (row : Row) → Had (op_at level (typed_op columns w) ∷ rest) row
post_had level columns (what.Filter conds) rest h onward row = λ passes. onward row
post_had level columns (what.Map cols) rest h onward row = onward _
post_had level columns what.Distinct rest h onward row = absurd h
post_had level columns (what.Reduce r) rest h onward row = absurd h

posts_had : (level : ℕ) (columns : List Column) (ops : List Op) → AllByRecursion (λ op. PostOp op.what) ops → (row : Row) → Had (map (op_at level) (typed_ops columns ops)) row
posts_had level columns [] h row = tt
posts_had level columns (op ∷ ops) h row = post_had level columns op.what (map (op_at level) (typed_ops (columns_after columns op.what) ops)) h.0 (posts_had level (columns_after columns op.what) ops h.1) row

join_had : (level : ℕ) (refine : Option Refine) (branches : List Branch) (join : Option Join) → AreJoined branches join → (row : Row) → Had (map (op_at level) (typed_ops (after_branches refine branches join).columns (posts_of join))) row
join_had level refine branches None h row = tt
join_had level refine branches (Some j) h row = posts_had level (after_branches refine branches (Some j)).columns j.post h.1.each row

pub query_posts_had : (window : ℕ) (queries : List TypedQuery) (q level : ℕ) → ∥ IsTyped window queries ∥₁ → q < length queries → (rows : List Row) → AllOf (map (op_at level) (query_at queries q).posts) rows
query_posts_had window queries q level t lt [] = tt
query_posts_had window queries q level t lt (row ∷ rows) = (
  ∥∥₁_elim t (had_prop (map (op_at level) (query_at queries q).posts) row) (λ t.
      let s = source_of window queries q t lt in
      let x : Query = s.query in
      subst (λ (y : TypedQuery). Had (map (op_at level) y.posts) row) (sym s.is) (join_had level x.refine x.branches x.join s.limits.joined row)),
  query_posts_had window queries q level t lt rows,
)

-- ---- the value of the items of a query

joined_bag : (keys : List JoinKey) (left left' right right' : List Row) → SameBag left left' → SameBag right right' → SameBag (joined keys left right) (joined keys left' right')
joined_bag keys left left' right right' l r = join_bag (meets (lefts keys) (rights keys)) (both (lefts keys) (rights keys)) left left' right right' l r

-- two branches of which the values are the rows, as bags
pub query_bag : (window : ℕ) (queries : List TypedQuery) (q level : ℕ) (kept : Option Kept) (tuples : List (List ℕ)) (left right : List Item) → ∥ IsTyped window queries ∥₁ → q < length queries
    → SameBag (branch_value (query_at queries q) 0 level left) (branch_rows (query_at queries q) 0 level kept tuples)
    → (length (query_at queries q).branches ≡ 2 → SameBag (branch_value (query_at queries q) 1 level right) (branch_rows (query_at queries q) 1 level kept tuples))
    → SameBag (query_value (query_at queries q) level left right) (query_rows (query_at queries q) level kept tuples)
query_bag window queries q level kept tuples left right t lt first second =
    let query : TypedQuery = query_at queries q in
    let values = joined query.keys (branch_value query 0 level left) (branch_value query 1 level right) in
    let rows = joined_rows query level kept tuples in
    let posts = map (op_at level) query.posts in
    let two : Bool → Type 0 = λ b. SameBag (cond b (through posts values) (branch_value query 0 level left)) (cond b (through posts rows) (branch_rows query 0 level kept tuples)) in
    by_test (length query.branches == 2)
    (λ is. subst two (sym is)
    (bag_back (through posts rows) (through posts values)
    (through_bag posts rows values (query_posts_had window queries q level t lt rows)
    (bag_back values rows (joined_bag query.keys (branch_value query 0 level left) (branch_rows query 0 level kept tuples) (branch_value query 1 level right) (branch_rows query 1 level kept tuples) first (second (nat_same (length query.branches) 2 is)))))))
    (λ isnt. subst two (sym isnt) first)

pub query_split : (window : ℕ) (queries : List TypedQuery) (q level : ℕ) (kept : Option Kept) (tuples : List (List ℕ)) (left right : List Item) → ∥ IsTyped window queries ∥₁ → q < length queries → AllByRecursion HasWidths tuples
    → AreSplit queries q 0 level kept tuples left → (length (query_at queries q).branches ≡ 2 → AreSplit queries q 1 level kept tuples right)
    → sorted_rows (query_value (query_at queries q) level left right) ≡ sorted_rows (query_rows (query_at queries q) level kept tuples)
query_split window queries q level kept tuples left right t lt widths l r =
    let some = some_branch window queries q t lt in
    sort_bag (query_value (query_at queries q) level left right) (query_rows (query_at queries q) level kept tuples)
    (query_bag window queries q level kept tuples left right t lt
    (split window q 0 level l.cut l.depth l.sizes queries kept tuples left t lt (omega (arith, some)) widths l.within l.same)
    (λ two. let s = r two in split window q 1 level s.cut s.depth s.sizes queries kept tuples right t lt (omega (arith, two)) widths s.within s.same))

-- ---- equal bags of items

pub value_bags : (window : ℕ) (queries : List TypedQuery) (q level : ℕ) (left left' right right' : List Item) → ∥ IsTyped window queries ∥₁ → q < length queries
    → AllByRecursion (IsItemOf (branch_at queries q 0)) left → SameBag left left' → AllByRecursion (IsItemOf (branch_at queries q 1)) right → SameBag right right'
    → sorted_rows (query_value (query_at queries q) level left right) ≡ sorted_rows (query_value (query_at queries q) level left' right')
value_bags window queries q level left left' right right' t lt of bag of' bag' =
    let query : TypedQuery = query_at queries q in
    let some = some_branch window queries q t lt in
    let posts = map (op_at level) query.posts in
    let here : List Row = joined query.keys (branch_value query 0 level left) (branch_value query 1 level right) in
    let there : List Row = joined query.keys (branch_value query 0 level left') (branch_value query 1 level right') in
    let first = bags window q 0 level queries left left' t lt (omega (arith, some)) of bag in
    let two : Bool → Type 0 = λ b. SameBag (cond b (through posts here) (branch_value query 0 level left)) (cond b (through posts there) (branch_value query 0 level left')) in
    sort_bag (query_value query level left right) (query_value query level left' right')
    (by_test (length query.branches == 2)
    (λ is. let many = nat_same (length query.branches) 2 is in
    subst two (sym is)
    (through_bag posts here there (query_posts_had window queries q level t lt here)
    (joined_bag query.keys (branch_value query 0 level left) (branch_value query 0 level left') (branch_value query 1 level right) (branch_value query 1 level right') first
    (bags window q 1 level queries right right' t lt (omega (arith, many)) of' bag'))))
    (λ isnt. subst two (sym isnt) first))
