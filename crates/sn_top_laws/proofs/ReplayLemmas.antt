-- From file to file, `finish` prints of what `emit` wrote what `run` writes.
use Rattle.std.proofs.Common.{◌≡◌, ℕ, ◌≤◌, ◌<◌, ◌^◌, ◌⊎◌, List, [], ◌∷◌, ◌++◌, length, drop, false, Option, None, Some, Ok, refl, ap, ◌∙◌, subst, append-nil, inl, inr}
use Rattle.std.specs.FinMap.{get}
use Rattle.std.specs.List.{AllByRecursion, flat_map}
use Rattle.sn_command_capture.specs.Capture.{ending_verdict, known_bytes, windows_in}
use Rattle.sn_windows.specs.Rising.{AreRising, Window}
use Rattle.sn_base.proofs.Lists.{all_weaker}
use Rattle.sn_command_emit.specs.Emit.{Emit}
use Rattle.sn_command_emit.specs.Sent.{frames_block, frames_wording}
use Rattle.sn_engine.specs.Intakes.{intakes_of}
use Rattle.sn_command_finish.specs.Finish.{Finish}
use Rattle.sn_command_finish.specs.Reported.{Reported}
use Rattle.sn_plan_fit.specs.Fits.{Fits, OnBranch, PiecesFit}
use Rattle.sn_plan_fit.specs.Pieces.{fit_misfit, piece_branch, shape_misfit}
use Rattle.sn_plan_fit.proofs.FitLaws.{fits_none, shape_none}
use Rattle.sn_io.specs.Counts.{ByName}
use Rattle.sn_pcap.specs.declared.header.Header.{Header}
use Rattle.sn_pcap.specs.declared.packet.Packet.{Packet}
use Rattle.sn_pcap.specs.declared.packet.Ending.TheVariants.{Clean}
use Rattle.sn_pcap.specs.Capture.{bytes_of}
use Rattle.sn_pcap.specs.Reading.{within}
use Rattle.sn_pcap.proofs.OneCapture.{records_some}
use Rattle.sn_plan_grammar.specs.declared.plan.Entry.{Entry}
use Rattle.sn_plan_grammar.specs.declared.plan.Piece.{Piece}
use Rattle.sn_plan_grammar.specs.declared.plan.Plan.{Plan}
use Rattle.sn_command_texts.specs.Queries.{QueriesIn}
use Rattle.sn_command_texts.specs.Texts.{PlanIn}
use Rattle.sn_command_texts.proofs.Verdicts.{plan_once, queries_once, switch_once}
use Rattle.sn_command_texts.proofs.Accepted.{switch_limits, typed_in}
use Rattle.sn_types_read.specs.Texts.{Queries}
use Rattle.sn_command_run.specs.Planned.{Planned, as_they_are, emitted_in, plan_block, plan_lines, plan_wording}
use Rattle.sn_command_run.specs.Run.{Run, planned, window_ns}
use Rattle.sn_command.specs.Ends.{end_status}
use Rattle.sn_command.specs.Outcomes.{Outcome, silent}
use Rattle.sn_command.specs.Refusals.{refusing}
use Rattle.sn_command.specs.Stages.{most_text}
use Rattle.sn_switch.specs.Texts.{IsSwitch}
use Rattle.sn_switch.specs.declared.switch.Switch.{Switch}
use Rattle.sn_types.specs.declared.typed_query.TypedBranch.{TypedBranch}
use Rattle.sn_types.specs.declared.typed_query.TypedQuery.{TypedQuery}
use Rattle.sn_types.specs.Typed.{HasWidths, IsTyped}
use Rattle.sn_top_laws.specs.Real.{IsReal}
use Rattle.sn_top_laws.specs.Replayed.{AreBytes, FinishesSo, HasWritten, HoldsBytes, IsKept, IsWritten}
use Rattle.sn_top_laws.proofs.AnswersLemmas.{fits_replayed}
use Rattle.sn_fields.proofs.Ranges.{front_bytes, rest_bytes, tuple_below}
use Rattle.sn_top_laws.proofs.CaptureLemmas.{HasNoHead, HasWindows, capture_due, capture_is, capture_ways, found_in, packets_in, shown_in}
use Rattle.sn_top_laws.proofs.LaneLemmas.{some_lanes}
use Rattle.sn_top_laws.proofs.PeelLemmas.{goes_silent, passed_goes, plan_harmless, queries_harmless, read_goes, reads_there, switch_harmless, test_passed, text_read}
use Rattle.sn_top_laws.proofs.RecordLemmas.{IsPacket, blocks_whole, counted, never_fall, packets_are, windows_real, windows_rise}

-- ---- a plan that fits has the shape of its queries

branch_weaker : (P Q : TypedBranch → Type 0) → ((b : TypedBranch) → P b → Q b) → (branch : Option TypedBranch) → OnBranch P branch → OnBranch Q branch
branch_weaker P Q weaker None h = tt
branch_weaker P Q weaker (Some b) h = weaker b h

pieces_weaker : (P Q : List ℕ → TypedBranch → Piece → Type 0) → ((path : List ℕ) (b : TypedBranch) (p : Piece) → P path b p → Q path b p) → (queries : List TypedQuery) (entries : List Entry) → PiecesFit P queries entries → PiecesFit Q queries entries
pieces_weaker P Q weaker [] es h = tt
pieces_weaker P Q weaker (q ∷ qs) [] h = tt
pieces_weaker P Q weaker (q ∷ qs) (e ∷ es) h = (
  all_weaker (λ (p : Piece). OnBranch (λ b. P e.levels b p) (piece_branch q p)) (λ (p : Piece). OnBranch (λ b. Q e.levels b p) (piece_branch q p))
      (λ p k. branch_weaker (λ b. P e.levels b p) (λ b. Q e.levels b p) (λ b i. weaker e.levels b p i) (piece_branch q p) k) e.pieces h.0,
  pieces_weaker P Q weaker qs es h.1,
)

has_shape : (queries : List TypedQuery) (s : Switch) (entries : List Entry) → Fits queries s entries → shape_misfit queries entries ≡ None
has_shape queries s entries fits =
    (shape_none queries entries).1 (record { paths = fits.paths; cuts = pieces_weaker _ _ (λ path b p is. is.cut) queries entries fits.pieces })

-- ---- the windows of a capture's bytes

module _ (window : ℕ) (header : Header) (file : List ℕ) (are : AreBytes file) where
  abbrev windows : List Window
  windows = windows_in (shown_in header file) (packets_in window header file)

  bytes_within : AreBytes (within file)
  bytes_within = front_bytes (2 ^ 40) file are

  wide : (p : Packet) → IsPacket p → HasWidths (shown_in header file p)
  wide p is = tuple_below header.link p.wire (bytes_of (within file) p) is.wire (front_bytes p.cap (drop p.at (within file)) (rest_bytes p.at (within file) bytes_within))

  packets_real : AllByRecursion IsPacket (found_in header file).packets
  packets_real = packets_are header (within file) bytes_within (records_some header (within file) 24).are

  real : AllByRecursion IsReal windows
  real = windows_real (shown_in header file) wide (packets_in window header file) (counted window (found_in header file).packets packets_real)

  rise : AreRising None windows
  rise = windows_rise (shown_in header file) (packets_in window header file) (never_fall window (found_in header file).packets)

-- ---- after the plan

module _ (read : Queries) (limits : Switch) (chosen : Plan) (typed : ∥ IsTyped read.window_us read.queries ∥₁) (is : IsSwitch limits) (fits : Fits read.queries limits chosen.entries) (later : ByName (List ℕ)) (emitted ran finished : Outcome (Unit {0}))
    (held : Option (List ℕ)) (bytes : (file : List ℕ) → held ≡ Some file → AreBytes file)
    (emitted_is : emitted ≡ capture_due (frames_wording (planned read limits chosen)) (window_ns read) held) (ran_is : ran ≡ capture_due (plan_wording (planned read limits chosen)) (window_ns read) held)
    (few : length emitted.text ≤ most_text) (reported : Reported read.queries chosen.entries emitted.text later finished) where
  abbrev p : Planned
  p = planned read limits chosen

  some : 0 < length (intakes_of 0 chosen.entries)
  some = some_lanes read.window_us read.queries chosen.entries typed fits.paths

  replayed_of : (windows : List Window) → AreRising None windows → AllByRecursion IsReal windows → emitted.text ≡ flat_map (λ w. frames_block p windows w.0 w.1) windows
      → finished ≡ record { text = flat_map (λ w. plan_block p windows w.0 w.1) windows ++ plan_lines p windows Clean; end = Ok tt }
  replayed_of windows rising real text =
      fits_replayed read.window_us limits p windows typed is fits some rising real (subst (λ (ts : List ℕ). length ts ≤ most_text) text few) later finished (subst (λ ts. Reported read.queries chosen.entries ts later finished) text reported)

  no_head : HasNoHead (window_ns read) held → FinishesSo emitted ran finished
  no_head none =
      let sent = emitted_is ∙ none.due (frames_wording p) in
      inr (record {
        fault = none.fault;
        emitted_so = sent;
        ran_so = ran_is ∙ none.due (plan_wording p);
        finished_so = replayed_of [] tt tt (ap (λ (o : Outcome (Unit {0})). o.text) sent);
      })

  some_windows : HasWindows (window_ns read) held → FinishesSo emitted ran finished
  some_windows w =
      let file : List ℕ = w.file in
      let are : AreBytes file = bytes file w.is in
      let packets : List (ℕ × Packet) = packets_in (window_ns read) w.header file in
      let windows : List Window = windows_in (shown_in w.header file) packets in
      let sent = emitted_is ∙ w.due (frames_wording p) in
      let text : emitted.text ≡ flat_map (λ (v : Window). frames_block p windows v.0 v.1) windows =
      ap (λ (o : Outcome (Unit {0})). o.text) sent ∙ append-nil _ ∙ blocks_whole (frames_wording p) (shown_in w.header file) packets w.few in
      inl (record {
        ending = w.ending;
        blocks = flat_map (λ (v : Window). plan_block p windows v.0 v.1) windows;
        windows = length windows;
        sent = emitted_in p windows;
        emitted_so = ap (λ (o : Outcome (Unit {0})). o.end) sent;
        ran_so = ran_is ∙ w.due (plan_wording p)
            ∙ ap (λ (ts : List ℕ). record { text = ts ++ plan_lines p windows w.ending; end = refusing (ending_verdict w.ending) }) (blocks_whole (plan_wording p) (shown_in w.header file) packets w.few);
        finished_so = replayed_of windows (rise (window_ns read) w.header file are) (real (window_ns read) w.header file are) text;
      })

  finishes : HasWritten emitted → FinishesSo emitted ran finished
  finishes written =
      by_way (capture_ways (frames_wording p) (window_ns read) held (subst (λ (o : Outcome (Unit {0})). IsWritten (end_status o.end)) emitted_is written))
    where
      by_way : HasNoHead (window_ns read) held ⊎ HasWindows (window_ns read) held → FinishesSo emitted ran finished
      by_way (inl none) = no_head none
      by_way (inr w) = some_windows w

-- ---- from file to file

pub finish_follows : (switch queries plan capture reports : List ℕ) (files later : ByName (List ℕ)) (emitted ran finished : Outcome (Unit {0})) → HoldsBytes capture files
    → Emit switch queries plan capture files emitted → HasWritten emitted → length emitted.text ≤ most_text → IsKept queries plan reports emitted.text files later
    → Run as_they_are false switch queries plan capture files ran → Finish queries plan reports later finished → FinishesSo emitted ran finished
finish_follows switch queries plan capture reports files later emitted ran finished bytes emits written few kept runs finishing =
    let q = text_read queries_harmless emits written in
    let s = text_read switch_harmless q.2 written in
    let c = text_read plan_harmless s.2 written in
    let f = test_passed (fit_misfit q.0.queries s.0 c.0.entries) c.2 written in
    let is : IsSwitch s.0 = switch_limits s.1.bytes s.0 s.1.is in
    let some_stages = is.stages.0 in
    let fits : Fits q.0.queries s.0 c.0.entries = (fits_none q.0.queries s.0 c.0.entries some_stages).0 f.0 in
    let run_queries = read_goes queries_once q.0 q.1 runs in
    let run_switch = read_goes switch_once s.0 s.1 run_queries in
    let run_plan = read_goes plan_once c.0 c.1 run_switch in
    let run_fit = passed_goes (fit_misfit q.0.queries s.0 c.0.entries) f.0 run_plan in
    let finish_queries = read_goes queries_once q.0 (reads_there queries QueriesIn files later q.0 kept.same_queries q.1) finishing in
    let finish_plan = read_goes plan_once c.0 (reads_there plan PlanIn files later c.0 kept.same_plan c.1) finish_queries in
    let finish_shape = passed_goes (shape_misfit q.0.queries c.0.entries) (has_shape q.0.queries s.0 c.0.entries fits) finish_plan in
    let reported = goes_silent emitted.text (λ begun is. is ∙ ap (λ (held : Option (List ℕ)). silent (known_bytes held)) kept.held) finish_shape in
    finishes q.0 s.0 c.0 (typed_in q.1.bytes q.0 q.1.is) is fits later emitted ran finished (get files capture) bytes (capture_is (frames_wording (planned q.0 s.0 c.0)) (λ windows number tuples. refl) (window_ns q.0) capture files emitted f.1) (capture_is (plan_wording (planned q.0 s.0 c.0)) (λ windows number tuples. refl) (window_ns q.0) capture files ran run_fit) few reported written
