-- The pipe of a piece can be made, so what is said of pipes holds of the definitions alone.
use Rattle.std.proofs.Common.{◌≡◌, ℕ, zero, suc, ◌+◌, ◌<◌, ◌≤◌, List, [], ◌∷◌, ◌++◌, map, take, length, All, true, false, Some, slice_get, get_or, lit≤, refl, ap, sym, ◌∙◌, subst, append_assoc, arith}
use Rattle.std.specs.FinSet as set
use Rattle.std.specs.List.{AllByRecursion, flat_map, range_with_len}
use Rattle.std.proofs.lemmas.List.{length-append}
use Rattle.std.proofs.lemmas.List.Elements.{recursion_from_All}
use Rattle.std.proofs.lemmas.List.Sums.{fold-append}
use Rattle.sn_base.specs.declared.fold.Or.{Or}
use Rattle.sn_base.proofs.Lists.{none_some, some_same, all_at as all_index}
use Rattle.sn_chain.specs.Chain.{empty_chain}
use Rattle.sn_emit.specs.Making.{CanMake}
use Rattle.sn_emit.specs.Plans.{IsNewPipeOf, Placed, gate_before, items_of}
use Rattle.sn_emit.specs.declared.tables.Tables.{Tables}
use Rattle.sn_pipe.specs.AnyStage.{Stage}
use Rattle.sn_pipe.specs.declared.stage.Stage.TheVariants.{Filter, Map, Distinct, Reduce}
use Rattle.sn_pipe.specs.Pipes.{PipeState, after_packet, after_packets, at_start, item_of, packets_give}
use Rattle.sn_pipe.specs.Stages.{cleared, top_of}
use Rattle.sn_pipe.specs.Windows.{HaveSizes}
use Rattle.sn_pipe.proofs.Makings.{count_front, count_more}
use Rattle.sn_pipe.proofs.TypedLaw.{typed_items}
use Rattle.sn_refine.specs.Steps.{Set}
use Rattle.sn_report.specs.Items.{Item}
use Rattle.sn_types.specs.declared.typed_op.TOp.{TOp}
use Rattle.sn_types.specs.declared.typed_op.TOp.TheVariants as ops
use Rattle.sn_types.specs.declared.typed_query.TypedQuery.{TypedQuery}
use Rattle.sn_types.specs.Cuts.{is_stateful, size_at, stateful}
use Rattle.sn_types.specs.Typed.{HasWidths, IsTyped, branch_at, query_at}
use Rattle.sn_command_emit.specs.Sent.{reads_out, sends_at}
use Rattle.sn_command_emit.proofs.PieceLemmas.{piece_reads, piece_sends}
use Rattle.std.specs.Option.{option_to_list}

-- ---- a pipe is made

one_bit : Or
one_bit = record { v = 1; in_range = (lit≤ tt, lit≤ tt) }

module _ (depth : ℕ) (size : ℕ → ℕ) where
  abbrev stage_of : ℕ → TOp → Stage
  stage_of slots (ops.Filter conds) = Filter conds
  stage_of slots (ops.Map exprs) = Map exprs
  stage_of slots ops.Distinct = Distinct (empty_chain one_bit depth slots) false
  stage_of slots (ops.Reduce r) = Reduce r (empty_chain r.fold depth slots)

  abbrev stages_from : ℕ → List TOp → List Stage
  stages_from i [] = []
  stages_from i (op ∷ os) = stage_of (size i) op ∷ stages_from (suc i) os

  tops_are : (i : ℕ) (os : List TOp) → map top_of (stages_from i os) ≡ os
  tops_are i [] = refl
  tops_are i (ops.Filter conds ∷ os) = ap (λ xs. ops.Filter conds ∷ xs) (tops_are (suc i) os)
  tops_are i (ops.Map exprs ∷ os) = ap (λ xs. ops.Map exprs ∷ xs) (tops_are (suc i) os)
  tops_are i (ops.Distinct ∷ os) = ap (λ xs. ops.Distinct ∷ xs) (tops_are (suc i) os)
  tops_are i (ops.Reduce r ∷ os) = ap (λ xs. ops.Reduce r ∷ xs) (tops_are (suc i) os)

  fresh_are : (i : ℕ) (os : List TOp) → map cleared (stages_from i os) ≡ stages_from i os
  fresh_are i [] = refl
  fresh_are i (ops.Filter conds ∷ os) = ap (λ xs. Filter conds ∷ xs) (fresh_are (suc i) os)
  fresh_are i (ops.Map exprs ∷ os) = ap (λ xs. Map exprs ∷ xs) (fresh_are (suc i) os)
  fresh_are i (ops.Distinct ∷ os) = ap (λ xs. Distinct (empty_chain one_bit depth (size i)) false ∷ xs) (fresh_are (suc i) os)
  fresh_are i (ops.Reduce r ∷ os) = ap (λ xs. Reduce r (empty_chain r.fold depth (size i)) ∷ xs) (fresh_are (suc i) os)

  abbrev SomeSlots : ℕ → List TOp → Type 0
  SomeSlots i os = (k : ℕ) (op : TOp) → slice_get os k ≡ Some op → is_stateful op ≡ true → 1 ≤ size (i + k)

  later_slots : (i : ℕ) (op : TOp) (os : List TOp) → SomeSlots i (op ∷ os) → SomeSlots (suc i) os
  later_slots i op os some k other at is = let next : i + suc k ≡ suc i + k = omega arith in subst (λ n. 1 ≤ size n) next (some (suc k) other at is)

  first_slots : (i : ℕ) (op : TOp) (os : List TOp) → SomeSlots i (op ∷ os) → is_stateful op ≡ true → 1 ≤ size i
  first_slots i op os some is = let here : i + 0 ≡ i = omega arith in subst (λ n. 1 ≤ size n) here (some 0 op refl is)

  sized_are : (i : ℕ) (os : List TOp) → SomeSlots i os → HaveSizes depth size i (stages_from i os)
  sized_are i [] some = tt
  sized_are i (ops.Filter conds ∷ os) some = (tt, sized_are (suc i) os (later_slots i (ops.Filter conds) os some))
  sized_are i (ops.Map exprs ∷ os) some = (tt, sized_are (suc i) os (later_slots i (ops.Map exprs) os some))
  sized_are i (ops.Distinct ∷ os) some = (record { deep = refl; wide = refl; some = first_slots i ops.Distinct os some refl }, sized_are (suc i) os (later_slots i ops.Distinct os some))
  sized_are i (ops.Reduce r ∷ os) some = ((refl, record { deep = refl; wide = refl; some = first_slots i (ops.Reduce r) os some refl }), sized_are (suc i) os (later_slots i (ops.Reduce r) os some))

got : (os : List TOp) (k : ℕ) (op : TOp) → slice_get os k ≡ Some op → op ≡ get_or os k op
got [] k op e = absurd (none_some e)
got (o ∷ os) zero op e = sym (some_same o op e)
got (o ∷ os) (suc k) op e = got os k op e

got_within : (os : List TOp) (k : ℕ) (op : TOp) → slice_get os k ≡ Some op → k < length os
got_within [] k op e = absurd (none_some e)
got_within (o ∷ os) zero op e = omega arith
got_within (o ∷ os) (suc k) op e = let rest = got_within os k op e in omega (arith, rest)

one_stateful : (op : TOp) → is_stateful op ≡ true → stateful (op ∷ []) ≡ 1
one_stateful (ops.Filter conds) is = absurd cc
one_stateful (ops.Map exprs) is = absurd cc
one_stateful ops.Distinct is = refl
one_stateful (ops.Reduce r) is = refl

-- each stateful operator of a piece has some slots
slots_of : (sizes : List ℕ) (os : List TOp) → All (λ size. (1 ≤ size) × (size ≤ 65536)) sizes → stateful os ≤ length sizes → (k : ℕ) (op : TOp) → slice_get os k ≡ Some op → is_stateful op ≡ true → 1 ≤ size_at os sizes (0 + k)
slots_of sizes os all enough k op at is =
    let lt = got_within os k op at in
    let more = count_more os k op lt (got os k op at) in
    let upto = count_front os (k + 1) in
    let one = one_stateful op is in
    let none : k ≡ 0 + k = omega arith in
    subst (λ n. 1 ≤ size_at os sizes n) none
    (all_index (λ n. 1 ≤ n) sizes (stateful (take k os)) (least sizes (recursion_from_All (λ (n : ℕ). (1 ≤ n) × (n ≤ 65536)) sizes all)) (omega (arith, more, upto, one, enough)))
  where
    least : (ns : List ℕ) → AllByRecursion (λ (n : ℕ). (1 ≤ n) × (n ≤ 65536)) ns → AllByRecursion (λ n. 1 ≤ n) ns
    least [] h = tt
    least (n ∷ ns) h = (h.0.0, least ns h.1)

pub record HasPipe (queries : List TypedQuery) (tables : Tables) (x : Placed) : Type 0 where
  pub pipe : PipeState
  pub new : IsNewPipeOf queries tables x pipe

pub has_pipe : (queries : List TypedQuery) (tables : Tables) (x : Placed) → CanMake queries x → HasPipe queries tables x
has_pipe queries tables x can =
    let os : List TOp = take x.piece.cut (branch_at queries x.query x.piece.branch).ops in
    let some = slots_of x.piece.slots os can.sizes can.enough in
    let size = size_at os x.piece.slots in
    record {
      pipe = record {
        query = query_at queries x.query;
        branch = x.piece.branch;
        coarser = gate_before tables.entries x.path x.piece.level;
        members = set.empty;
        prefix = record { level = x.piece.level; stages = stages_from tables.depth size 0 os; place = 0 };
      };
      new = record {
        same_query = refl;
        same_branch = refl;
        same_coarser = refl;
        no_member = refl;
        same_level = refl;
        stages = record { same = tops_are tables.depth size 0 os; fresh = fresh_are tables.depth size 0 os; sized = sized_are tables.depth size 0 os some };
        unread = refl;
      };
    }

-- ---- the items of a piece

module _ (window : ℕ) (queries : List TypedQuery) (tables : Tables) (x : Placed) (kept : Set) (t : ∥ IsTyped window queries ∥₁) (can : CanMake queries x) where
  module _ (pipe : PipeState) (new : IsNewPipeOf queries tables x pipe) where
    abbrev start : PipeState
    start = at_start pipe kept

    gives : (before tuples : List (List ℕ)) → AllByRecursion HasWidths (before ++ tuples)
        → flat_map (sends_at queries tables x kept (before ++ tuples)) (range_with_len (length before) (length tuples)) ≡ packets_give (after_packets start before) tuples
    gives before [] widths = refl
    gives before (tuple ∷ tuples) widths =
        let all : List (List ℕ) = before ++ tuple ∷ tuples in
        let next : List (List ℕ) = before ++ tuple ∷ [] in
        let same : next ++ tuples ≡ all = append_assoc before (tuple ∷ []) tuples in
        let count : length before + 1 ≡ length next = let both = length-append before (tuple ∷ []) in omega (arith, both) in
        ap (λ (is : List Item). is ++ flat_map (sends_at queries tables x kept all) (range_with_len (length before + 1) (length tuples))) (sym (piece_sends window queries tables x pipe kept t can new before tuples tuple widths))
        ∙ ap (λ (is : List Item). option_to_list (item_of (after_packets start before) tuple) ++ is)
        (ap (λ (ts : List (List ℕ)). flat_map (sends_at queries tables x kept ts) (range_with_len (length before + 1) (length tuples))) (sym same)
        ∙ ap (λ n. flat_map (sends_at queries tables x kept (next ++ tuples)) (range_with_len n (length tuples))) count
        ∙ gives next tuples (subst (AllByRecursion HasWidths) (sym same) widths)
        ∙ ap (λ (p : PipeState). packets_give p tuples) (fold-append after_packet start before (tuple ∷ [])))

  -- the items at the packets, and then those that are read out, are the items of the piece
  pub items_are : (tuples : List (List ℕ)) → AllByRecursion HasWidths tuples
      → flat_map (sends_at queries tables x kept tuples) (range_with_len 0 (length tuples)) ++ reads_out queries tables x kept tuples ≡ items_of queries tables x kept tuples
  items_are tuples widths =
      let h : HasPipe queries tables x = has_pipe queries tables x can in
      ap (λ (is : List Item). is ++ reads_out queries tables x kept tuples) (gives h.pipe h.new [] tuples widths)
      ∙ ap (λ (is : List Item). packets_give (at_start h.pipe kept) tuples ++ is) (sym (piece_reads window queries tables x h.pipe kept t can h.new tuples widths))
      ∙ typed_items window queries x.query x.piece.branch x.piece.level x.piece.cut tables.depth (gate_before tables.entries x.path x.piece.level) x.piece.slots h.pipe kept tuples t can.query can.branch can.cut h.new widths
