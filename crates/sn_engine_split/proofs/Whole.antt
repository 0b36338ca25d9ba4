-- Whole queries of which items are dropped.
use Rattle.std.proofs.Common.{◌≡◌, ℕ, ◌<◌, List, length, Option, None, subst, sym, arith}
use Rattle.std.specs.List.{AllByRecursion}
use Rattle.sn_base.specs.Bags.{SameBag}
use Rattle.sn_base.specs.Sorted.{sorted_rows}
use Rattle.sn_base.proofs.BagLemmas.{bag_filter}
use Rattle.sn_base.proofs.Lists.{all_filter}
use Rattle.sn_base.proofs.SortLemmas.{sort_bag}
use Rattle.sn_types.specs.declared.typed_query.TypedQuery.{TypedQuery}
use Rattle.sn_types.specs.Typed.{IsTyped, HasWidths, branch_at, branch_of, query_at}
use Rattle.sn_ops.specs.Plain.{branch_rows, query_rows}
use Rattle.sn_ops.proofs.PacketSteps.{some_branch}
use Rattle.sn_report.specs.Items.{Item}
use Rattle.sn_engine_split.specs.Branches.{IsItemOf, branch_value, query_value}
use Rattle.sn_engine_split.proofs.Queries.{query_bag}
use Rattle.sn_pipe_items.specs.Left.{keeps_at}
use Rattle.sn_engine_split.specs.Opened.{Prefixes, keeps_in, left_in, tuples_admitted}
use Rattle.sn_engine_split.specs.Wholes.{AreLeft}
use Rattle.sn_engine_split.proofs.OpenSplit.{open_split}

branch_left : (window q b level : ℕ) (queries : List TypedQuery) (ps : Option Prefixes) (tuples : List (List ℕ)) (found : List Item) → ∥ IsTyped window queries ∥₁ → q < length queries → b < length (query_at queries q).branches
    → AllByRecursion HasWidths tuples → AreLeft queries q b level ps tuples found → SameBag (branch_value (query_at queries q) b level found) (branch_rows (query_at queries q) b level None (tuples_admitted (query_at queries q) ps tuples))
branch_left window q b level queries ps tuples found t lt within widths h =
    let query : TypedQuery = query_at queries q in
    subst (λ (xs : List Item). SameBag (branch_value query b level xs) (branch_rows query b level None (tuples_admitted query ps tuples))) (sym h.is)
    (open_split window q b level h.cut h.depth h.sizes queries h.entries ps tuples h.sent t lt within widths h.within h.low h.same)

pub query_left : (window : ℕ) (queries : List TypedQuery) (q level : ℕ) (ps : Option Prefixes) (tuples : List (List ℕ)) (left right : List Item) → ∥ IsTyped window queries ∥₁ → q < length queries → AllByRecursion HasWidths tuples
    → AreLeft queries q 0 level ps tuples left → (length (query_at queries q).branches ≡ 2 → AreLeft queries q 1 level ps tuples right)
    → sorted_rows (query_value (query_at queries q) level left right) ≡ sorted_rows (query_rows (query_at queries q) level None (tuples_admitted (query_at queries q) ps tuples))
query_left window queries q level ps tuples left right t lt widths l r =
    let query : TypedQuery = query_at queries q in
    let some = some_branch window queries q t lt in
    sort_bag (query_value query level left right) (query_rows query level None (tuples_admitted query ps tuples))
    (query_bag window queries q level None (tuples_admitted query ps tuples) left right t lt
    (branch_left window q 0 level queries ps tuples left t lt (omega (arith, some)) widths l)
    (λ two. branch_left window q 1 level queries ps tuples right t lt (omega (arith, two)) widths (r two)))

-- ---- the order of the items is free

pub left_bag : (query : TypedQuery) (b : ℕ) (ps : Option Prefixes) (xs ys : List Item) → SameBag xs ys → SameBag (left_in query b ps xs) (left_in query b ps ys)
left_bag query b ps xs ys bag = bag_filter (λ (x : Item). keeps_at (keeps_in query.field (branch_of query b) ps) x.tag x.row) xs ys bag

pub left_of_branch : (queries : List TypedQuery) (q b : ℕ) (ps : Option Prefixes) (xs : List Item) → AllByRecursion (IsItemOf (branch_at queries q b)) xs → AllByRecursion (IsItemOf (branch_at queries q b)) (left_in (query_at queries q) b ps xs)
left_of_branch queries q b ps xs h = all_filter (IsItemOf (branch_at queries q b)) (λ (x : Item). keeps_at (keeps_in (query_at queries q).field (branch_at queries q b) ps) x.tag x.row) xs h
