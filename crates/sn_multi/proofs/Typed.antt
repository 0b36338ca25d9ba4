-- Several switches at typed queries.
use Rattle.std.proofs.Common.{◌≡◌, ℕ, ◌<◌, List, [], ◌∷◌, ◌++◌, map, filter, length, Option, None, refl, ap, sym, ◌∙◌, subst, arith}
use Rattle.std.specs.List.{AllByRecursion}
use Rattle.std.proofs.lemmas.List.{map-append}
use Rattle.std.proofs.lemmas.List.Elements.{filter-append}
use Rattle.sn_base.proofs.BagLemmas.{bag_same, bag_then}
use Rattle.sn_base.proofs.Lists.{all_filter}
use Rattle.sn_base.proofs.OperatorLemmas.{AllOf}
use Rattle.sn_base.proofs.SortLemmas.{sort_bag}
use Rattle.sn_base.specs.Bags.{SameBag}
use Rattle.sn_base.specs.Groups.{Row}
use Rattle.sn_base.specs.Operators.{Op, through}
use Rattle.sn_base.specs.Sorted.{sorted_rows}
use Rattle.sn_ops.specs.Packets.{is_kept, packet_rows}
use Rattle.sn_ops.specs.Plain.{branch_rows, query_rows}
use Rattle.sn_ops.specs.declared.packets.Kept.{Kept}
use Rattle.sn_ops.proofs.Branches.{packets_of}
use Rattle.sn_ops.proofs.PacketSteps.{some_branch}
use Rattle.sn_report.specs.Items.{Item}
use Rattle.sn_engine_split.specs.Branches.{branch_value, query_value}
use Rattle.sn_engine_split.specs.Opened.{Prefixes, tuples_admitted, admits, tabled}
use Rattle.sn_engine_split.proofs.OpenSplit.{open_value}
use Rattle.sn_engine_split.proofs.Queries.{query_bag}
use Rattle.sn_engine_split.proofs.Typed.{rows_had}
use Rattle.sn_types.specs.Cuts.{size_at}
use Rattle.sn_types.specs.Typed.{HasWidths, IsTyped, branch_of, packet_row, query_at}
use Rattle.sn_types.specs.Values.{op_at}
use Rattle.sn_types.specs.declared.typed_query.TypedQuery.{TypedQuery}
use Rattle.sn_multi.specs.Branches.{AreLeftOfSwitches, AreOfSwitches, together}
use Rattle.sn_multi.proofs.Having.{any_had, merged_any}
use Rattle.sn_multi.proofs.Merging.{rows_in}

-- the packet rows of all captures
rows_together : (query : TypedQuery) (b level : ℕ) (kept : Option Kept) (captures : List (List (List ℕ))) → rows_in (map (packet_rows query b level kept) captures) ≡ packet_rows query b level kept (together captures)
rows_together query b level kept [] = refl
rows_together query b level kept (tuples ∷ captures) =
    let row : List ℕ → Row = packet_row query.field level (branch_of query b).fields in
    ap (λ xs. packet_rows query b level kept tuples ++ xs) (rows_together query b level kept captures)
    ∙ sym (map-append row (filter (is_kept query.field kept) tuples) (filter (is_kept query.field kept) (together captures)))
    ∙ ap (map row) (sym (filter-append (is_kept query.field kept) tuples (together captures)))

-- the operators of a branch have the packet rows of all captures
rows_are_had : (window q b level : ℕ) (queries : List TypedQuery) (kept : Option Kept) (captures : List (List (List ℕ))) → ∥ IsTyped window queries ∥₁ → q < length queries → b < length (query_at queries q).branches → AllByRecursion HasWidths (together captures)
    → AllOf (map (op_at level) (branch_of (query_at queries q) b).ops) (rows_in (map (packet_rows (query_at queries q) b level kept) captures))
rows_are_had window q b level queries kept captures t lt within widths =
    let query : TypedQuery = query_at queries q in
    subst (AllOf (map (op_at level) (branch_of query b).ops)) (sym (rows_together query b level kept captures))
    (rows_had window queries q b level (packet_rows query b level kept (together captures)) t lt within (packets_of window queries q b level kept (together captures) t lt within widths))

-- the value of the items of a branch in all switches is the branch on the tuples of all captures
pub branch_merged : (window q b level : ℕ) (queries : List TypedQuery) (kept : Option Kept) (captures : List (List (List ℕ))) (found : List Item) → ∥ IsTyped window queries ∥₁ → q < length queries → b < length (query_at queries q).branches
    → AllByRecursion HasWidths (together captures) → AreOfSwitches queries q b level kept captures found → SameBag (branch_value (query_at queries q) b level found) (branch_rows (query_at queries q) b level kept (together captures))
branch_merged window q b level queries kept captures found t lt within widths h =
    let query : TypedQuery = query_at queries q in
    let ops : List Op = map (op_at level) (branch_of query b).ops in
    bag_then
    (merged_any h.depth (size_at (branch_of query b).ops h.sizes) h.cut ops (map (packet_rows query b level kept) captures) found (rows_are_had window q b level queries kept captures t lt within widths) h.same)
    (bag_same (ap (through ops) (rows_together query b level kept captures)))

-- and so are whole queries
pub queries_merged : (window q level : ℕ) (queries : List TypedQuery) (kept : Option Kept) (captures : List (List (List ℕ))) (left right : List Item) → ∥ IsTyped window queries ∥₁ → q < length queries → AllByRecursion HasWidths (together captures)
    → AreOfSwitches queries q 0 level kept captures left → (length (query_at queries q).branches ≡ 2 → AreOfSwitches queries q 1 level kept captures right)
    → sorted_rows (query_value (query_at queries q) level left right) ≡ sorted_rows (query_rows (query_at queries q) level kept (together captures))
queries_merged window q level queries kept captures left right t lt widths l r =
    let some = some_branch window queries q t lt in
    sort_bag (query_value (query_at queries q) level left right) (query_rows (query_at queries q) level kept (together captures))
    (query_bag window queries q level kept (together captures) left right t lt
    (branch_merged window q 0 level queries kept captures left t lt (omega (arith, some)) widths l)
    (λ two. branch_merged window q 1 level queries kept captures right t lt (omega (arith, two)) widths (r two)))

-- ---- where items of other prefixes are dropped

-- the tuples of all captures that were let in
in_together : (query : TypedQuery) (ps : Option Prefixes) (captures : List (List (List ℕ))) → together (map (tuples_admitted query ps) captures) ≡ tuples_admitted query ps (together captures)
in_together query ps [] = refl
in_together query ps (tuples ∷ captures) =
    ap (λ ts. tuples_admitted query ps tuples ++ ts) (in_together query ps captures) ∙ sym (filter-append (admits query.field ps) tuples (together captures))

branch_left : (window q b level : ℕ) (queries : List TypedQuery) (ps : Option Prefixes) (captures : List (List (List ℕ))) (found : List Item) → ∥ IsTyped window queries ∥₁ → q < length queries → b < length (query_at queries q).branches
    → AllByRecursion HasWidths (together captures) → AreLeftOfSwitches queries q b level ps captures found → SameBag (branch_value (query_at queries q) b level found) (branch_rows (query_at queries q) b level None (tuples_admitted (query_at queries q) ps (together captures)))
branch_left window q b level queries ps captures found t lt within widths h =
    let query : TypedQuery = query_at queries q in
    let wide : List (List (List ℕ)) = map (tuples_admitted query (tabled h.entries ps)) captures in
    let all : together wide ≡ tuples_admitted query (tabled h.entries ps) (together captures) = in_together query (tabled h.entries ps) captures in
    let wide_widths : AllByRecursion HasWidths (together wide) = subst (AllByRecursion HasWidths) (sym all) (all_filter HasWidths (admits query.field (tabled h.entries ps)) (together captures) widths) in
    let sent : SameBag (branch_value query b level h.sent) (branch_rows query b level None (tuples_admitted query (tabled h.entries ps) (together captures))) =
    bag_then
    (branch_merged window q b level queries None wide h.sent t lt within wide_widths record { cut = h.cut; depth = h.depth; sizes = h.sizes; same = h.same })
    (bag_same (ap (branch_rows query b level None) all)) in
    subst (λ (xs : List Item). SameBag (branch_value query b level xs) (branch_rows query b level None (tuples_admitted query ps (together captures)))) (sym h.is)
    (open_value window q b level queries h.entries ps (together captures) h.sent t lt within h.low
    (any_had h.depth (size_at (branch_of query b).ops h.sizes) h.cut (map (op_at level) (branch_of query b).ops) (map (packet_rows query b level None) wide) h.sent
    (rows_are_had window q b level queries None wide t lt within wide_widths) h.same) sent)

-- the value of what is left of the items of a query in all switches is the query on the tuples of all captures with these prefixes
pub queries_left : (window q level : ℕ) (queries : List TypedQuery) (ps : Option Prefixes) (captures : List (List (List ℕ))) (left right : List Item) → ∥ IsTyped window queries ∥₁ → q < length queries → AllByRecursion HasWidths (together captures)
    → AreLeftOfSwitches queries q 0 level ps captures left → (length (query_at queries q).branches ≡ 2 → AreLeftOfSwitches queries q 1 level ps captures right)
    → sorted_rows (query_value (query_at queries q) level left right) ≡ sorted_rows (query_rows (query_at queries q) level None (tuples_admitted (query_at queries q) ps (together captures)))
queries_left window q level queries ps captures left right t lt widths l r =
    let query : TypedQuery = query_at queries q in
    let some = some_branch window queries q t lt in
    sort_bag (query_value query level left right) (query_rows query level None (tuples_admitted query ps (together captures)))
    (query_bag window queries q level None (tuples_admitted query ps (together captures)) left right t lt
    (branch_left window q 0 level queries ps captures left t lt (omega (arith, some)) widths l)
    (λ two. branch_left window q 1 level queries ps captures right t lt (omega (arith, two)) widths (r two)))
