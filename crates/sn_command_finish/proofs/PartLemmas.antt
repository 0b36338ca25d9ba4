-- The answers of an engine can be printed.
use Rattle.std.proofs.Common.{◌≡◌, ℕ, ◌<◌, ◌==◌, List, [], ◌∷◌, map, filter, length, cond, sym, subst, arith}
use Rattle.std.specs.List.{AllByRecursion}
use Rattle.std.specs.Ordering.{nat_cmp, is_gt}
use Rattle.std.specs.Cmp.Lexicographic.{slice_cmp}
use Rattle.std.proofs.lemmas.Bool.{eqb-true, eqb-false}
use Rattle.sn_base.specs.Groups.{Row}
use Rattle.sn_base.specs.Operators.{through}
use Rattle.sn_base.specs.Sorted.{put_row, sorted_rows}
use Rattle.sn_base.proofs.Lists.{by_test}
use Rattle.sn_engine.specs.declared.intake.Intake.{Intake}
use Rattle.sn_engine.specs.Answers.{part_of, parts_of}
use Rattle.sn_engine.specs.Intakes.{AreIntakes, IsIntake, items_at, lane_at}
use Rattle.sn_engine.proofs.Lanes.{items_at_of}
use Rattle.sn_engine.proofs.FitLemmas.{branch_value_of}
use Rattle.sn_ops.specs.Joins.{joined}
use Rattle.sn_ops.proofs.PacketSteps.{some_branch}
use Rattle.sn_ops.proofs.Queries.{CanBeJoined, query_joined, query_one, query_posts_final}
use Rattle.sn_out.specs.Text.{IsPartOf}
use Rattle.sn_report.specs.Items.{Item}
use Rattle.sn_engine_split.specs.Branches.{IsItemOf, branch_value, query_value}
use Rattle.sn_types.specs.declared.typed_query.TypedQuery.{TypedQuery}
use Rattle.sn_types.specs.Typed.{IsTyped, branch_at, end_columns, final_columns, query_at, schema_at}
use Rattle.sn_types.specs.Values.{op_at}
use Rattle.sn_types.proofs.RowsAfter.{AreOf}

-- ---- sorted rows

all_put : (P : Row → Type 0) (x : Row) (ys : List Row) → P x → AllByRecursion P ys → AllByRecursion P (put_row x ys)
all_put P x [] here h = (here, tt)
all_put P x (y ∷ ys) here h =
    by_test (is_gt (slice_cmp nat_cmp x y))
    (λ is. subst (λ b. AllByRecursion P (cond b (y ∷ put_row x ys) (x ∷ y ∷ ys))) (sym is) (h.0, all_put P x ys here h.1))
    (λ isnt. subst (λ b. AllByRecursion P (cond b (y ∷ put_row x ys) (x ∷ y ∷ ys))) (sym isnt) (here, h))

all_sorted : (P : Row → Type 0) (rows : List Row) → AllByRecursion P rows → AllByRecursion P (sorted_rows rows)
all_sorted P [] h = tt
all_sorted P (x ∷ xs) h = all_put P x (sorted_rows xs) h.0 (all_sorted P xs h.1)

-- ---- the value of a query

module _ (window : ℕ) (queries : List TypedQuery) (q level : ℕ) (left right : List Item) (t : ∥ IsTyped window queries ∥₁) (lt : q < length queries)
    (of_left : AllByRecursion (IsItemOf (branch_at queries q 0)) left) (of_right : AllByRecursion (IsItemOf (branch_at queries q 1)) right) where
  abbrev query : TypedQuery
  query = query_at queries q

  abbrev both : List Row
  both = through (map (op_at level) query.posts) (joined query.keys (branch_value query 0 level left) (branch_value query 1 level right))

  left_value : AreOf (end_columns (branch_at queries q 0)) (branch_value query 0 level left)
  left_value = branch_value_of window queries q 0 level left t lt (let some = some_branch window queries q t lt in omega (arith, some)) of_left

  both_of : length query.branches ≡ 2 → AreOf (final_columns query) both
  both_of two =
      let right_value = branch_value_of window queries q 1 level right t lt (omega (arith, two)) of_right in
      let can : CanBeJoined query.keys (schema_at query.schemas 0) (branch_value query 0 level left) (branch_value query 1 level right) = query_joined window queries q (branch_value query 0 level left) (branch_value query 1 level right) t lt two left_value right_value in
      query_posts_final window queries q level (joined query.keys (branch_value query 0 level left) (branch_value query 1 level right)) t lt can.of

  query_value_of : AreOf (final_columns query) (query_value query level left right)
  query_value_of =
      by_test (length query.branches == 2)
      (λ is. subst (λ b. AreOf (final_columns query) (cond b both (branch_value query 0 level left))) (sym is) (both_of (eqb-true (length query.branches) 2 is)))
      (λ isnt. subst (λ b. AreOf (final_columns query) (cond b both (branch_value query 0 level left))) (sym isnt)
      (query_one window queries q (branch_value query 0 level left) t lt (eqb-false (length query.branches) 2 isnt) left_value))

-- ---- the parts of an answer

module _ (window : ℕ) (queries : List TypedQuery) (lanes : List Intake) (t : ∥ IsTyped window queries ∥₁) (h : AreIntakes queries lanes) where
  part_fits : (x : Intake) → x.branch ≡ 0 → IsIntake queries x → IsPartOf queries (part_of queries lanes x)
  part_fits x first is =
      let left : AllByRecursion (IsItemOf (branch_at queries x.query 0)) x.items = subst (λ b. AllByRecursion (IsItemOf (branch_at queries x.query b)) x.items) first is.each in
      let right = items_at_of queries lanes (lane_at x.query x.place 1) h in
      record {
        query = is.query;
        rows = all_sorted _ (query_value (query_at queries x.query) x.level x.items (items_at lanes (lane_at x.query x.place 1))) (query_value_of window queries x.query x.level x.items (items_at lanes (lane_at x.query x.place 1)) t is.query left right);
      }

  abbrev firsts : List Intake → List Intake
  firsts xs = filter (λ (x : Intake). x.branch == 0) xs

  parts_fit : (xs : List Intake) → AreIntakes queries xs → AllByRecursion (IsPartOf queries) (map (part_of queries lanes) (firsts xs))
  parts_fit [] each = tt
  parts_fit (x ∷ xs) each =
      by_test (x.branch == 0)
      (λ is. subst (λ b. AllByRecursion (IsPartOf queries) (map (part_of queries lanes) (cond b (x ∷ firsts xs) (firsts xs)))) (sym is) (part_fits x (eqb-true x.branch 0 is) each.0, parts_fit xs each.1))
      (λ isnt. subst (λ b. AllByRecursion (IsPartOf queries) (map (part_of queries lanes) (cond b (x ∷ firsts xs) (firsts xs)))) (sym isnt) (parts_fit xs each.1))

  pub can_be_printed : AllByRecursion (IsPartOf queries) (parts_of queries lanes)
  can_be_printed = parts_fit lanes h
