-- The law of windows for the pipes of typed queries.
use Rattle.std.proofs.Common.{◌≡◌, ℕ, zero, suc, ◌+◌, ◌<◌, ◌≤◌, List, [], ◌∷◌, ◌++◌, map, filter, take, length, false, cond, Option, refl, ap, sym, subst, ◌∙◌, slice_index, arith}
use Rattle.std.proofs.Math.Bridge.{le_prop}
use Rattle.std.proofs.Math.Logic.{∥∥₁_elim}
use Rattle.std.proofs.lemmas.List.{length-map, length-take, take-take, take_all}
use Rattle.std.proofs.lemmas.List.Elements.{recursion_from_All}
use Rattle.std.specs.FinSet as set
use Rattle.std.specs.List.{AllByRecursion}
use Rattle.std.specs.Ordering.{nat_cmp}
use Rattle.sn_base.specs.AnyFold.{any_has}
use Rattle.sn_base.specs.Groups.{Row}
use Rattle.sn_base.specs.Operators.{Had, Op}
use Rattle.sn_base.proofs.Lists.{all_filter, all_map, all_weaker, map_both, map_front}
use Rattle.sn_pipe_items.specs.Items.{by_packet, items, numbered, read_from, sent_from}
use Rattle.sn_ops.specs.Flow.{AllFit}
use Rattle.sn_ops.proofs.Branches.{branch_fit}
use Rattle.sn_types.specs.declared.typed_op.TOp.{TOp}
use Rattle.sn_types.specs.declared.typed_op.TOp.TheVariants as ops
use Rattle.sn_types.specs.declared.typed_query.TypedQuery.{TypedQuery}
use Rattle.sn_types.specs.declared.typed_query.TypedBranch.{TypedBranch}
use Rattle.sn_types.specs.Cuts.{cut_after_distinct, filters_ahead, greatest_cut}
use Rattle.sn_types.specs.Typed.{HasWidths, IsTyped, branch_at, branch_of, packet_row, query_at}
use Rattle.sn_fields.specs.declared.field.Field.{Field}
use Rattle.sn_types_faults.specs.Columns.{packet_columns}
use Rattle.sn_types.specs.Typing.{typed_ops}
use Rattle.sn_types.specs.Values.{op_at, value_of}
use Rattle.sn_types.proofs.Facts.{branch_source_of}
use Rattle.sn_types.proofs.RowsAfter.{packet_of}
use Rattle.sn_types.proofs.TypedRows.{of_fields}
use Rattle.sn_pipe.specs.AnyStage.{Stage}
use Rattle.sn_pipe.specs.declared.gate.Gate.{Gate}
use Rattle.sn_pipe.specs.declared.stage.Stage.TheVariants.{Filter, Map, Distinct, Reduce}
use Rattle.sn_types.specs.Cuts.{size_at, stateful}
use Rattle.sn_pipe.specs.Pipes.{IsNewPipe, PipeState, after_packets, at_start, packets_give, admits, row_in, rows_in, rows_admitted}
use Rattle.sn_pipe.specs.Prefixes.{left_in}
use Rattle.sn_pipe.specs.Stages.{ops_of, top_of}
use Rattle.sn_pipe.specs.Windows.{AreFilters, HasRegisters, HaveSizes, IsPrefix}
use Rattle.sn_pipe.proofs.Takes.{fit_front}
use Rattle.sn_pipe.proofs.TupleLaw.{tuple_items}

-- ---- only filters stand after the reduce of a cut

abbrev OnlyFilters : List TOp → Type 0
OnlyFilters [] = Unit {0}
OnlyFilters (ops.Filter conds ∷ os) = OnlyFilters os
OnlyFilters (ops.Map exprs ∷ os) = ⊥
OnlyFilters (ops.Distinct ∷ os) = ⊥
OnlyFilters (ops.Reduce r ∷ os) = ⊥

abbrev IsFront : List TOp → Type 0
IsFront [] = Unit {0}
IsFront (ops.Filter conds ∷ os) = IsFront os
IsFront (ops.Map exprs ∷ os) = IsFront os
IsFront (ops.Distinct ∷ os) = IsFront os
IsFront (ops.Reduce r ∷ os) = OnlyFilters os

filters_front : (cut : ℕ) (os : List TOp) → cut ≤ filters_ahead os → OnlyFilters (take cut os)
filters_front zero os le = tt
filters_front (suc n) [] le = tt
filters_front (suc n) (ops.Filter conds ∷ os) le = filters_front n os (omega (arith, le))
filters_front (suc n) (ops.Map exprs ∷ os) le = absurd (omega (arith, le))
filters_front (suc n) (ops.Distinct ∷ os) le = absurd (omega (arith, le))
filters_front (suc n) (ops.Reduce r ∷ os) le = absurd (omega (arith, le))

after_front : (cut : ℕ) (os : List TOp) → cut ≤ cut_after_distinct os → IsFront (take cut os)
after_front zero os le = tt
after_front (suc n) [] le = tt
after_front (suc n) (ops.Filter conds ∷ os) le = after_front n os (omega (arith, le))
after_front (suc n) (ops.Map exprs ∷ os) le = after_front n os (omega (arith, le))
after_front (suc n) (ops.Distinct ∷ os) le = absurd (omega (arith, le))
after_front (suc n) (ops.Reduce r ∷ os) le = filters_front n os (omega (arith, le))

cut_front : (cut : ℕ) (os : List TOp) → cut ≤ greatest_cut os → IsFront (take cut os)
cut_front zero os le = tt
cut_front (suc n) [] le = tt
cut_front (suc n) (ops.Filter conds ∷ os) le = cut_front n os (omega (arith, le))
cut_front (suc n) (ops.Map exprs ∷ os) le = cut_front n os (omega (arith, le))
cut_front (suc n) (ops.Distinct ∷ os) le = after_front n os (omega (arith, le))
cut_front (suc n) (ops.Reduce r ∷ os) le = filters_front n os (omega (arith, le))

filters_prefix : (ss : List Stage) → OnlyFilters (map top_of ss) → AreFilters ss
filters_prefix [] h = tt
filters_prefix (Filter conds ∷ ss) h = filters_prefix ss h
filters_prefix (Map exprs ∷ ss) h = h
filters_prefix (Distinct chain spilled ∷ ss) h = h
filters_prefix (Reduce r chain ∷ ss) h = h

front_prefix : (ss : List Stage) → IsFront (map top_of ss) → IsPrefix ss
front_prefix [] h = tt
front_prefix (Filter conds ∷ ss) h = front_prefix ss h
front_prefix (Map exprs ∷ ss) h = front_prefix ss h
front_prefix (Distinct chain spilled ∷ ss) h = front_prefix ss h
front_prefix (Reduce r chain ∷ ss) h = filters_prefix ss h

-- ---- what comes to a fold is the fold's

had_filters : (level : ℕ) (ss : List Stage) (row : Row) → AreFilters ss → Had (ops_of level ss) row
had_filters level [] row h = tt
had_filters level (Filter conds ∷ ss) row h = λ passes. had_filters level ss row h
had_filters level (Map exprs ∷ ss) row h = absurd h
had_filters level (Distinct chain spilled ∷ ss) row h = absurd h
had_filters level (Reduce r chain ∷ ss) row h = absurd h

had_fit : (level : ℕ) (ss : List Stage) (row : Row) → IsPrefix ss → AllFit level (map top_of ss) (row ∷ []) → Had (ops_of level ss) row
had_fit level [] row p h = tt
had_fit level (Filter conds ∷ ss) row p h = λ is. had_fit level ss row p (subst (λ b. AllFit level (map top_of ss) (cond b (row ∷ []) [])) is h.1)
had_fit level (Map exprs ∷ ss) row p h = had_fit level ss (map (λ e. value_of e row) exprs) p h.1
had_fit level (Distinct chain spilled ∷ ss) row p h = had_fit level ss row p h.1
had_fit level (Reduce r chain ∷ ss) row p h =
    ((recursion_from_All (λ x. any_has r.fold (slice_index x r.value)) (row ∷ []) h.0.had).0, λ a has. had_filters level ss _ p)

-- ---- sizes of the front are those of the branch

pub sized_same : (depth : ℕ) (size size' : ℕ → ℕ) (i : ℕ) (ss : List Stage) → ((j : ℕ) → j < i + length ss → size j ≡ size' j) → HaveSizes depth size i ss → HaveSizes depth size' i ss
sized_same depth size size' i [] e h = tt
sized_same depth size size' i (s ∷ ss) e h =
    (subst (λ n. HasRegisters depth n s) (e i (omega arith)) h.0, sized_same depth size size' (suc i) ss (λ j lt. e j (omega (arith, lt))) h.1)

-- items are determined by the operators before the cut
items_by : (depth : ℕ) (size : ℕ → ℕ) (m n : ℕ) (xs ys : List Op) (rows : List Row) → take m xs ≡ take n ys → items depth size m xs rows ≡ items depth size n ys rows
items_by depth size m n xs ys rows e = ap (λ os. by_packet (length rows) (sent_from depth size 0 os (numbered 0 rows)) ++ read_from depth size 0 false os (numbered 0 rows)) e

only_prop : (os : List TOp) → IsProp (OnlyFilters os)
only_prop [] = hlevel le_prop
only_prop (ops.Filter conds ∷ os) = only_prop os
only_prop (ops.Map exprs ∷ os) = hlevel le_prop
only_prop (ops.Distinct ∷ os) = hlevel le_prop
only_prop (ops.Reduce r ∷ os) = hlevel le_prop

front_prop : (os : List TOp) → IsProp (IsFront os)
front_prop [] = hlevel le_prop
front_prop (ops.Filter conds ∷ os) = front_prop os
front_prop (ops.Map exprs ∷ os) = front_prop os
front_prop (ops.Distinct ∷ os) = front_prop os
front_prop (ops.Reduce r ∷ os) = only_prop os

module _ (window : ℕ) (queries : List TypedQuery) (q b level cut depth : ℕ) (coarser : Option Gate) (sizes : List ℕ) (pipe : PipeState) (kept : set.FinSet nat_cmp) (tuples : List (List ℕ))
    (t : ∥ IsTyped window queries ∥₁) (lt : q < length queries) (within : b < length (query_at queries q).branches) where
  abbrev branch_ops : List TOp
  branch_ops = (branch_at queries q b).ops

  front_is : cut ≤ (branch_at queries q b).max_cut → IsFront (take cut branch_ops)
  front_is le =
      ∥∥₁_elim t (front_prop (take cut branch_ops)) (λ t.
      let s = branch_source_of window queries q b t lt within in
      let P : TypedBranch → Type 0 = λ x. cut ≤ x.max_cut → IsFront (take cut x.ops) in
      subst P (sym s.is) (λ k. cut_front cut (typed_ops (packet_columns s.ops) s.ops) k) le)

  abbrev row_of : ℕ → List ℕ → Row
  row_of at tuple = packet_row (query_at queries q).field at (branch_at queries q b).fields tuple

  module _ (le : cut ≤ (branch_at queries q b).max_cut) (new : IsNewPipe (query_at queries q) b level coarser (take cut branch_ops) depth sizes pipe) where
    abbrev stages : List Stage
    stages = pipe.prefix.stages

    prefix_is : IsPrefix stages
    prefix_is = front_prefix stages (subst IsFront (sym new.stages.same) (front_is le))

    sized_is : HaveSizes depth (size_at branch_ops sizes) 0 stages
    sized_is =
        let count : length stages ≤ cut = omega (arith, length-map stages top_of, ap length new.stages.same, length-take cut branch_ops) in
        sized_same depth (size_at (take cut branch_ops) sizes) (size_at branch_ops sizes) 0 stages
        (λ j lt. ap (λ (os : List TOp). slice_index sizes (stateful os)) (take-take j cut branch_ops (omega (arith, lt, count)))) new.stages.sized

    row_is : (tuple : List ℕ) → row_in (at_start pipe kept) tuple ≡ row_of pipe.prefix.level tuple
    row_is tuple =
        ap (λ (x : TypedQuery). packet_row x.field pipe.prefix.level (branch_of x pipe.branch).fields tuple) new.same_query
        ∙ ap (λ n. packet_row (query_at queries q).field pipe.prefix.level (branch_of (query_at queries q) n).fields tuple) new.same_branch

    had_row : (tuple : List ℕ) → HasWidths tuple → Had (ops_of pipe.prefix.level stages) (row_in (at_start pipe kept) tuple)
    had_row tuple widths =
        let at = pipe.prefix.level in
        let row : Row = row_of at tuple in
        let fields : List Field = (branch_at queries q b).fields in
        let of = of_fields window queries q b fields row t lt within refl (packet_of (query_at queries q).field at fields tuple widths) in
        let fits = fit_front at cut branch_ops (row ∷ []) (branch_fit window queries q b at (row ∷ []) t lt within (of, tt)) in
        subst (Had (ops_of at stages)) (sym (row_is tuple))
        (had_fit at stages row prefix_is (subst (λ (os : List TOp). AllFit at os (row ∷ [])) (sym new.stages.same) fits))

    had_rows : AllByRecursion HasWidths tuples → AllByRecursion (Had (ops_of pipe.prefix.level stages)) (rows_in (at_start pipe kept) tuples)
    had_rows widths =
        let start : PipeState = at_start pipe kept in
        all_map (Had (ops_of pipe.prefix.level stages)) (row_in start) (filter (admits start) tuples)
        (all_weaker HasWidths (λ tuple. Had (ops_of pipe.prefix.level stages) (row_in start tuple)) had_row (filter (admits start) tuples) (all_filter HasWidths (admits start) tuples widths))

    ops_are : take (length stages) (ops_of pipe.prefix.level stages) ≡ take cut (map (op_at level) branch_ops)
    ops_are =
        let count = length-map stages (λ s. op_at pipe.prefix.level (top_of s)) in
        take_all (length stages) (ops_of pipe.prefix.level stages) (omega (arith, count))
        ∙ sym (map_both top_of (op_at pipe.prefix.level) stages)
        ∙ ap (map (op_at pipe.prefix.level)) new.stages.same
        ∙ ap (λ n. map (op_at n) (take cut branch_ops)) new.same_level
        ∙ map_front (op_at level) cut branch_ops

    rows_are : rows_in (at_start pipe kept) tuples ≡ rows_admitted (query_at queries q) b level coarser kept tuples
    rows_are =
        ap (λ (x : TypedQuery). rows_admitted x pipe.branch pipe.prefix.level pipe.coarser kept tuples) new.same_query
        ∙ ap (λ n. rows_admitted (query_at queries q) n pipe.prefix.level pipe.coarser kept tuples) new.same_branch
        ∙ ap (λ n. rows_admitted (query_at queries q) b n pipe.coarser kept tuples) new.same_level
        ∙ ap (λ o. rows_admitted (query_at queries q) b level o kept tuples) new.same_coarser

    pub typed_items : AllByRecursion HasWidths tuples →
        packets_give (at_start pipe kept) tuples ++ left_in (after_packets (at_start pipe kept) tuples).prefix ≡ items depth (size_at branch_ops sizes) cut (map (op_at level) branch_ops) (rows_admitted (query_at queries q) b level coarser kept tuples)
    typed_items widths =
        tuple_items pipe kept depth (size_at branch_ops sizes) tuples prefix_is sized_is (had_rows widths)
        ∙ items_by depth (size_at branch_ops sizes) (length stages) cut (ops_of pipe.prefix.level stages) (map (op_at level) branch_ops) (rows_in (at_start pipe kept) tuples) ops_are
        ∙ ap (items depth (size_at branch_ops sizes) cut (map (op_at level) branch_ops)) rows_are
