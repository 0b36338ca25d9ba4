-- Equal bags of tuples give equal bags of rows.
use Rattle.std.proofs.Common.{ℕ, ◌<◌, List, map, filter, length, ◌==◌, cond, Bool, Option, sym, subst, arith}
use Rattle.std.specs.List.{AllByRecursion}
use Rattle.sn_base.proofs.BagLemmas.{bag_filter, bag_map}
use Rattle.sn_base.proofs.Lists.{by_test, nat_same}
use Rattle.sn_base.proofs.OperatorLemmas.{join_bag, through_bag}
use Rattle.sn_base.specs.Bags.{SameBag}
use Rattle.sn_base.specs.Groups.{Row}
use Rattle.sn_base.specs.Operators.{through}
use Rattle.sn_ops.proofs.Branches.{packets_of}
use Rattle.sn_ops.proofs.PacketSteps.{some_branch}
use Rattle.sn_ops.specs.Joins.{both, lefts, meets, rights}
use Rattle.sn_ops.specs.Packets.{is_kept, packet_rows}
use Rattle.sn_ops.specs.Plain.{branch_rows, joined_rows, query_rows}
use Rattle.sn_ops.specs.declared.packets.Kept.{Kept}
use Rattle.sn_engine_split.proofs.Queries.{query_posts_had}
use Rattle.sn_engine_split.proofs.Typed.{rows_had}
use Rattle.sn_types.specs.Typed.{HasWidths, IsTyped, branch_at, packet_row, query_at}
use Rattle.sn_types.specs.Values.{op_at}
use Rattle.sn_types.specs.declared.typed_query.TypedQuery.{TypedQuery}

pub branch_bag : (window q b level : ℕ) (queries : List TypedQuery) (kept : Option Kept) (tuples others : List (List ℕ)) → ∥ IsTyped window queries ∥₁ → q < length queries → b < length (query_at queries q).branches
    → AllByRecursion HasWidths tuples → SameBag tuples others → SameBag (branch_rows (query_at queries q) b level kept tuples) (branch_rows (query_at queries q) b level kept others)
branch_bag window q b level queries kept tuples others t lt within widths bag =
    let query : TypedQuery = query_at queries q in
    let passes : List ℕ → Bool = is_kept query.field kept in
    let row : List ℕ → Row = packet_row query.field level (branch_at queries q b).fields in
    through_bag (map (op_at level) (branch_at queries q b).ops) (packet_rows query b level kept tuples) (packet_rows query b level kept others)
    (rows_had window queries q b level (packet_rows query b level kept tuples) t lt within (packets_of window queries q b level kept tuples t lt within widths))
    (bag_map row (filter passes tuples) (filter passes others) (bag_filter passes tuples others bag))

pub whole_bag : (window q level : ℕ) (queries : List TypedQuery) (kept : Option Kept) (tuples others : List (List ℕ)) → ∥ IsTyped window queries ∥₁ → q < length queries
    → AllByRecursion HasWidths tuples → SameBag tuples others → SameBag (query_rows (query_at queries q) level kept tuples) (query_rows (query_at queries q) level kept others)
whole_bag window q level queries kept tuples others t lt widths bag =
    let query : TypedQuery = query_at queries q in
    let posts = map (op_at level) query.posts in
    let here : List Row = joined_rows query level kept tuples in
    let there : List Row = joined_rows query level kept others in
    let some = some_branch window queries q t lt in
    let first = branch_bag window q 0 level queries kept tuples others t lt (omega (arith, some)) widths bag in
    let two : Bool → Type 0 = λ b. SameBag (cond b (through posts here) (branch_rows query 0 level kept tuples)) (cond b (through posts there) (branch_rows query 0 level kept others)) in
    by_test (length query.branches == 2)
    (λ is. let both_there = nat_same (length query.branches) 2 is in
    let second = branch_bag window q 1 level queries kept tuples others t lt (omega (arith, both_there)) widths bag in
    subst two (sym is)
    (through_bag posts here there (query_posts_had window queries q level t lt here)
    (join_bag (meets (lefts query.keys) (rights query.keys)) (both (lefts query.keys) (rights query.keys))
    (branch_rows query 0 level kept tuples) (branch_rows query 0 level kept others) (branch_rows query 1 level kept tuples) (branch_rows query 1 level kept others) first second)))
    (λ isnt. subst two (sym isnt) first)
