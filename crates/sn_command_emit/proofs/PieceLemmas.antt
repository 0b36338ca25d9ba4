-- The lane of a piece gives its items packet by packet, and then what is read out.
use Rattle.std.proofs.Common.{◌≡◌, ℕ, zero, suc, ◌+◌, ◌<◌, ◌≤◌, List, [], ◌∷◌, ◌++◌, map, filter, take, length, false, cond, Option, Some, None, refl, ap, sym, subst, ◌∙◌, slice_index, arith}
use Rattle.std.specs.FinSet as set
use Rattle.std.specs.List.{AllByRecursion}
use Rattle.std.specs.Option.{option_map, option_to_list}
use Rattle.std.proofs.lemmas.List.{length-map, length-take, take-take}
use Rattle.sn_base.specs.declared.lane.Lane.{Lane}
use Rattle.sn_base.specs.Groups.{Row}
use Rattle.sn_base.specs.Operators.{Had, Op as Acting}
use Rattle.sn_base.specs.Operators.Op.{Filter as Passing, Map as Mapping, Distinct as Once, Reduce as Grouping}
use Rattle.sn_base.proofs.Lists.{map_both, map_front}
use Rattle.sn_engine_lockstep.specs.Work.{frames_given, name_of}
use Rattle.sn_emit.specs.declared.sender.Sender.{Sender}
use Rattle.sn_emit.specs.Making.{CanMake}
use Rattle.sn_emit.specs.Plans.{IsLaneOf, IsNewPipeOf, Placed}
use Rattle.sn_emit.specs.Senders.{frames_left, row_frame, sender_after, sender_next, sender_start}
use Rattle.sn_pipe_items.specs.Items.{at_packet, numbered, read_from, sent_from}
use Rattle.sn_pipe_items.proofs.Cuts.{IsCut, IsCutAfterDistinct, OnlyFilters}
use Rattle.sn_pipe.specs.AnyStage.{Stage}
use Rattle.sn_pipe.specs.declared.stage.Stage.TheVariants.{Filter, Map, Distinct, Reduce}
use Rattle.sn_pipe.specs.Pipes.{PipeState, after_packets, at_start, is_admitted, item_of, row_in}
use Rattle.sn_pipe.specs.Prefixes.{left_in}
use Rattle.sn_pipe.specs.Stages.{cleared, ops_of as acting, top_of}
use Rattle.sn_pipe.specs.Windows.{AreFilters, HasRegisters, HaveSizes, IsPrefix}
use Rattle.sn_pipe.proofs.Flows.{Flow, run}
use Rattle.sn_pipe.proofs.Starts.{starts_again}
use Rattle.sn_pipe.proofs.WindowLaw.{read_is, sent_is}
use Rattle.sn_refine.specs.Steps.{Set}
use Rattle.sn_report.specs.declared.frame.Frame.TheVariants.{End}
use Rattle.sn_report.specs.Items.{Item}
use Rattle.sn_engine_split.proofs.Cuts.{cut_within}
use Rattle.sn_engine_split.proofs.Typed.{cut_of, row_had}
use Rattle.sn_types.specs.declared.typed_op.TOp.{TOp}
use Rattle.sn_types.specs.declared.typed_query.TypedQuery.{TypedQuery}
use Rattle.sn_types.specs.Cuts.{size_at, stateful}
use Rattle.sn_types.specs.Typed.{HasWidths, IsTyped, branch_at, branch_of, packet_row, query_at}
use Rattle.sn_types.specs.Values.{op_at}
use Rattle.sn_types.proofs.RowsAfter.{packet_of}
use Rattle.sn_types.proofs.TypedRows.{of_fields}
use Rattle.sn_command_emit.specs.Sent.{flow_of, ops_of, reads_out, sends_at, sizes_of}
use Rattle.sn_command_emit.proofs.FlowLemmas.{after_run, all_flow, flow, rising_flow, run_at}
use Rattle.sn_pipe.proofs.TypedLaw.{sized_same}
use Rattle.sn_emit.proofs.LaneLaw.{same_lane, same_end, pipe_after}
use Rattle.sn_emit.specs.declared.tables.Tables.{Tables}
use Rattle.sn_pipe.specs.declared.gate.Gate.{Gate}

-- ---- operators up to a cut

had_front : (cut : ℕ) (ops : List Acting) (row : Row) → Had ops row → Had (take cut ops) row
had_front zero ops row h = tt
had_front (suc n) [] row h = tt
had_front (suc n) (Passing t ∷ ops) row h = λ is. had_front n ops row (h is)
had_front (suc n) (Mapping f ∷ ops) row h = had_front n ops (f row) h
had_front (suc n) (Once ∷ ops) row h = had_front n ops row h
had_front (suc n) (Grouping g ∷ ops) row h = (h.0, λ a has. had_front n ops _ (h.1 a has))

-- only filters stand after the reduce of a cut
only_filters : (level : ℕ) (ss : List Stage) → OnlyFilters (acting level ss) → AreFilters ss
only_filters level [] h = tt
only_filters level (Filter conds ∷ ss) h = only_filters level ss h
only_filters level (Map exprs ∷ ss) h = h
only_filters level (Distinct chain spilled ∷ ss) h = h
only_filters level (Reduce r chain ∷ ss) h = h

after_prefix : (level : ℕ) (ss : List Stage) → IsCutAfterDistinct (acting level ss) → IsPrefix ss
after_prefix level [] h = tt
after_prefix level (Filter conds ∷ ss) h = after_prefix level ss h
after_prefix level (Map exprs ∷ ss) h = after_prefix level ss h
after_prefix level (Distinct chain spilled ∷ ss) h = absurd h
after_prefix level (Reduce r chain ∷ ss) h = only_filters level ss h

cut_prefix : (level : ℕ) (ss : List Stage) → IsCut (acting level ss) → IsPrefix ss
cut_prefix level [] h = tt
cut_prefix level (Filter conds ∷ ss) h = cut_prefix level ss h
cut_prefix level (Map exprs ∷ ss) h = cut_prefix level ss h
cut_prefix level (Distinct chain spilled ∷ ss) h = after_prefix level ss h
cut_prefix level (Reduce r chain ∷ ss) h = only_filters level ss h

-- ---- the pipe of a piece

module _ (window : ℕ) (queries : List TypedQuery) (tables : Tables) (x : Placed) (pipe : PipeState) (kept : Set) (t : ∥ IsTyped window queries ∥₁) (can : CanMake queries x) (new : IsNewPipeOf queries tables x pipe) where
  abbrev query : TypedQuery
  query = query_at queries x.query

  abbrev branch_ops : List TOp
  branch_ops = (branch_at queries x.query x.piece.branch).ops

  abbrev stages : List Stage
  stages = pipe.prefix.stages

  abbrev start : PipeState
  start = at_start pipe kept

  abbrev level : ℕ
  level = pipe.prefix.level

  abbrev size : ℕ → ℕ
  size = sizes_of queries x

  ops_are : acting level stages ≡ ops_of queries x
  ops_are =
      sym (map_both top_of (op_at level) stages)
      ∙ ap (map (op_at level)) new.stages.same
      ∙ ap (λ n. map (op_at n) (take x.piece.cut branch_ops)) new.same_level
      ∙ map_front (op_at x.piece.level) x.piece.cut branch_ops

  prefix_is : IsPrefix stages
  prefix_is = cut_prefix level stages (subst IsCut (sym ops_are) (cut_within x.piece.level x.piece.cut branch_ops (cut_of window queries x.query x.piece.branch x.piece.cut t can.query can.branch can.cut)))

  sized_is : HaveSizes tables.depth size 0 stages
  sized_is =
      let count : length stages ≤ x.piece.cut = omega (arith, length-map stages top_of, ap length new.stages.same, length-take x.piece.cut branch_ops) in
      sized_same tables.depth (size_at (take x.piece.cut branch_ops) x.piece.slots) size 0 stages
      (λ j lt. ap (λ (os : List TOp). slice_index x.piece.slots (stateful os)) (take-take j x.piece.cut branch_ops (omega (arith, lt, count)))) new.stages.sized

  row_is : (tuple : List ℕ) → row_in start tuple ≡ packet_row query.field x.piece.level (branch_of query x.piece.branch).fields tuple
  row_is tuple =
      ap (λ (q : TypedQuery). packet_row q.field level (branch_of q pipe.branch).fields tuple) new.same_query
      ∙ ap (λ n. packet_row query.field level (branch_of query n).fields tuple) new.same_branch
      ∙ ap (λ n. packet_row query.field n (branch_of query x.piece.branch).fields tuple) new.same_level

  had_row : (tuple : List ℕ) → HasWidths tuple → Had (acting level stages) (row_in start tuple)
  had_row tuple widths =
      let fields = (branch_at queries x.query x.piece.branch).fields in
      let row : Row = packet_row query.field x.piece.level fields tuple in
      let of = of_fields window queries x.query x.piece.branch fields row t can.query can.branch refl (packet_of query.field x.piece.level fields tuple widths) in
      subst (Had (acting level stages)) (sym (row_is tuple))
      (subst (λ (os : List Acting). Had os row) (sym ops_are)
      (had_front x.piece.cut (map (op_at x.piece.level) branch_ops) row (row_had window queries x.query x.piece.branch x.piece.level row t can.query can.branch of)))

  flow_is : (tuples : List (List ℕ)) → flow start 0 tuples ≡ flow_of queries tables x kept tuples
  flow_is tuples =
      let made : TypedQuery → ℕ → ℕ → Option Gate → Flow =
      λ q b l o. map (λ z. (z.0, packet_row q.field l (branch_of q b).fields z.1)) (filter (λ z. is_admitted q.field o kept z.1) (numbered 0 tuples)) in
      ap (λ q. made q pipe.branch level pipe.coarser) new.same_query
      ∙ ap (λ n. made query n level pipe.coarser) new.same_branch
      ∙ ap (λ n. made query x.piece.branch n pipe.coarser) new.same_level
      ∙ ap (λ o. made query x.piece.branch x.piece.level o) new.same_coarser

  -- the tuple of a packet gives the item that stands at it
  pub piece_sends : (before later : List (List ℕ)) (tuple : List ℕ) → AllByRecursion HasWidths (before ++ tuple ∷ later)
      → option_to_list (item_of (after_packets start before) tuple) ≡ sends_at queries tables x kept (before ++ tuple ∷ later) (length before)
  piece_sends before later tuple widths =
      let all : List (List ℕ) = before ++ tuple ∷ later in
      let none : 0 + length before ≡ length before = omega arith in
      sym (run_at start 0 before later tuple (map cleared stages))
      ∙ ap (at_packet (run level 0 (map cleared stages) (flow start 0 all))) none
      ∙ sent_is level tables.depth size (length before) 0 stages (flow start 0 all) sized_is (rising_flow start 0 all) (all_flow start (Had (acting level stages)) had_row 0 all widths)
      ∙ ap (λ os. at_packet (sent_from tables.depth size 0 os (flow start 0 all)) (length before)) ops_are
      ∙ ap (λ fs. at_packet (sent_from tables.depth size 0 (ops_of queries x) fs) (length before)) (flow_is all)

  -- what is left after the last packet is what is read out
  pub piece_reads : (tuples : List (List ℕ)) → AllByRecursion HasWidths tuples → left_in (after_packets start tuples).prefix ≡ reads_out queries tables x kept tuples
  piece_reads tuples widths =
      ap (λ (p : PipeState). left_in p.prefix) (after_run start 0 tuples (map cleared stages))
      ∙ read_is level tables.depth size 0 false stages (flow start 0 tuples) prefix_is sized_is (all_flow start (Had (acting level stages)) had_row 0 tuples widths)
      ∙ ap (λ os. read_from tables.depth size 0 false os (flow start 0 tuples)) ops_are
      ∙ ap (read_from tables.depth size 0 false (ops_of queries x)) (flow_is tuples)

-- ---- the lane of a piece

as_frames : (name : Lane) (o : Option Item) → option_to_list (option_map (row_frame name) o) ≡ map (row_frame name) (option_to_list o)
as_frames name None = refl
as_frames name (Some item) = refl

module _ (window : ℕ) (queries : List TypedQuery) (tables : Tables) (x : Placed) (base : Sender) (kept : Set) (t : ∥ IsTyped window queries ∥₁) (can : CanMake queries x) (lane : IsLaneOf queries tables x base) where
  abbrev first : Sender
  first = sender_start base kept

  pipe_is : (tuples : List (List ℕ)) → (sender_after first tuples).pipe ≡ after_packets (at_start (at_start base.pipe set.empty) kept) tuples
  pipe_is tuples = pipe_after first tuples ∙ ap (λ (p : PipeState). after_packets p tuples) (sym (starts_again base.pipe set.empty kept))

  name_is : (tuples : List (List ℕ)) → (sender_after first tuples).lane ≡ name_of x
  name_is tuples = same_lane first tuples ∙ lane.lane

  -- what a tuple gives are the frames at its packet
  pub lane_sends : (before later : List (List ℕ)) (tuple : List ℕ) → AllByRecursion HasWidths (before ++ tuple ∷ later)
      → frames_given tuple (sender_after first before) ≡ map (row_frame (name_of x)) (sends_at queries tables x kept (before ++ tuple ∷ later) (length before))
  lane_sends before later tuple widths =
      let s : Sender = sender_after first before in
      ap (λ n. option_to_list (option_map (row_frame n) (item_of s.pipe tuple))) (name_is before)
      ∙ as_frames (name_of x) (item_of s.pipe tuple)
      ∙ ap (λ (p : PipeState). map (row_frame (name_of x)) (option_to_list (item_of p tuple))) (pipe_is before)
      ∙ ap (map (row_frame (name_of x))) (piece_sends window queries tables x (at_start base.pipe set.empty) kept t can lane.pipe before later tuple widths)

  -- what is left after the last one are the frames after the last packet
  pub lane_reads : (number : ℕ) (tuples : List (List ℕ)) → AllByRecursion HasWidths tuples
      → frames_left (sender_after first tuples) number ≡ map (row_frame (name_of x)) (reads_out queries tables x kept tuples) ++ End (name_of x) number ∷ []
  lane_reads number tuples widths =
      let s : Sender = sender_after first tuples in
      ap (λ (n : Lane). map (row_frame n) (left_in s.pipe.prefix) ++ cond s.ended [] (End n number ∷ [])) (name_is tuples)
      ∙ ap (λ b. map (row_frame (name_of x)) (left_in s.pipe.prefix) ++ cond b [] (End (name_of x) number ∷ [])) (same_end first tuples)
      ∙ ap (λ (p : PipeState). map (row_frame (name_of x)) (left_in p.prefix) ++ End (name_of x) number ∷ []) (pipe_is tuples)
      ∙ ap (λ items. map (row_frame (name_of x)) items ++ End (name_of x) number ∷ []) (piece_reads window queries tables x (at_start base.pipe set.empty) kept t can lane.pipe tuples widths)
