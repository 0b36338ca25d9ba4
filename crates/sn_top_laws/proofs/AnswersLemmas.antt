-- The answers to what `emit` wrote are those along the plan.
use Rattle.std.proofs.Common.{◌≡◌, ℕ, ◌<◌, ◌≤◌, List, [], ◌∷◌, ◌++◌, map, length, sum, sum_by, true, Option, Some, None, Ok, refl, ap, sym, ◌∙◌, subst, append_assoc}
use Rattle.std.specs.List.{AllByRecursion, flat_map}
use Rattle.std.proofs.lemmas.Bool.{lt-ltb}
use Rattle.std.proofs.lemmas.Grind.{flat_map-append}
use Rattle.std.proofs.lemmas.List.{length-map}
use Rattle.std.proofs.lemmas.List.Folds.{flat_map-map}
use Rattle.sn_base.proofs.Lists.{all_map, all_weaker, map_both}
use Rattle.sn_windows.specs.Rising.{AreRising, IsAbove, Window}
use Rattle.sn_engine_lockstep.specs.declared.source.Source.{Source}
use Rattle.sn_engine_lockstep.specs.Sources.{kept_in, source_of}
use Rattle.sn_engine_lockstep.specs.Windows.{answers_from}
use Rattle.sn_engine_lockstep.specs.Work.{Recalls}
use Rattle.sn_engine_lockstep.proofs.Apart.{pieces_apart}
use Rattle.sn_engine_lockstep.proofs.Laws.{all_windows, plan_made, intakes_are}
use Rattle.sn_engine_lockstep.proofs.Recalling.{recalls_none}
use Rattle.sn_emit.specs.Making.{CanMake}
use Rattle.sn_emit.specs.Plans.{Placed, pieces_from}
use Rattle.sn_engine.specs.declared.intake.Intake.{Intake}
use Rattle.sn_engine.specs.Intakes.{intakes_of}
use Rattle.sn_engine.specs.Keeping.{gathered}
use Rattle.sn_engine.specs.Taking.{is_above}
use Rattle.sn_command_finish.specs.Reported.{Reported}
use Rattle.sn_command_finish.specs.Whole.{HaveNames, IsWindow, Rise, Sent, answered_text, answers_from as reports_answered, blocks_of, frames_in}
use Rattle.sn_command_finish.proofs.WholeLemmas.{windows_answered}
use Rattle.sn_plan_fit.specs.Fits.{AreEntriesOf, Fits}
use Rattle.sn_refine.specs.Steps.{Set}
use Rattle.sn_report.specs.Framed.{IsWritten, Written, bytes_in, bytes_of}
use Rattle.sn_io.specs.Counts.{ByName}
use Rattle.sn_out.specs.Text.{block_text, total_line}
use Rattle.sn_pcap.specs.declared.packet.Ending.TheVariants.{Clean}
use Rattle.sn_report.specs.Items.{Frame}
use Rattle.sn_report.specs.Frames.{IsFrame, spelling}
use Rattle.sn_command_run.specs.Along.{last_of}
use Rattle.sn_command_run.specs.Planned.{Planned, answers_at, emitted_in, plan_block, plan_lines}
use Rattle.sn_command_run.proofs.AlongLemmas.{last_more, next_answers, rising_front}
use Rattle.sn_command.specs.Outcomes.{Outcome}
use Rattle.sn_command.specs.Stages.{most_text}
use Rattle.sn_switch.specs.declared.switch.Switch.{Switch}
use Rattle.sn_switch.specs.Texts.{IsSwitch}
use Rattle.sn_types.specs.declared.answers.Answers.{Answers}
use Rattle.sn_types.specs.Typed.{IsTyped}
use Rattle.sn_command_emit.specs.Causal.{kept_is_causal}
use Rattle.sn_command_emit.specs.Reporting.{kept_now}
use Rattle.sn_command_emit.specs.Sent.{frames_block, kept_of, window_frames}
use Rattle.sn_command_emit.proofs.KeptLemmas.{all_admitted}
use Rattle.sn_top_laws.specs.Real.{IsReal}
use Rattle.sn_top_laws.proofs.NameLemmas.{all_at, all_flat, each_among, have_names}
use Rattle.sn_top_laws.proofs.WindowLemmas.{answers_are, are_frames, is_window, kept_next, sent_of}
use Rattle.sn_command_live.proofs.ReachLemmas.{sums_are as sum_is}

-- ---- sums

flat_flat : {X : Type 0} (f : X → List Frame) (xs : List X) → flat_map (spelling 2) (flat_map f xs) ≡ flat_map (λ x. flat_map (spelling 2) (f x)) xs
flat_flat f [] = refl
flat_flat f (x ∷ xs) = flat_map-append (spelling 2) (f x) (flat_map f xs) ∙ ap (λ ys. flat_map (spelling 2) (f x) ++ ys) (flat_flat f xs)

-- ---- frames as they are sent

abbrev as_sent : Frame → Written
as_sent frame = record { version = 2; frame = frame }

frames_sent : (frames : List Frame) → map (λ (w : Written). w.frame) (map as_sent frames) ≡ frames
frames_sent [] = refl
frames_sent (frame ∷ frames) = ap (λ (fs : List Frame). frame ∷ fs) (frames_sent frames)

-- ---- numbers rise

above_is : (before : Option ℕ) (w : ℕ) → IsAbove before w → is_above before w ≡ true
above_is None w h = refl
above_is (Some before) w h = lt-ltb before w h

rise_of : (p : Planned) (windows : List Window) (before : Option ℕ) (ws : List Window) → AreRising before ws → Rise before (map (sent_of p windows) ws)
rise_of p windows before [] r = tt
rise_of p windows before (w ∷ ws) r = (above_is before w.0 r.0, rise_of p windows (Some w.0) ws r.1)

-- ---- windows

module _ (typed_for : ℕ) (p : Planned) (t : ∥ IsTyped typed_for p.queries ∥₁) (entries : AreEntriesOf p.queries p.entries) (can : AllByRecursion (CanMake p.queries) (pieces_from 0 p.entries)) (windows : List Window)
    (rising : AreRising None windows) (real : AllByRecursion IsReal windows) where
  abbrev pieces : List Placed
  pieces = pieces_from 0 p.entries

  abbrev lanes : List Intake
  lanes = intakes_of 0 p.entries

  -- what the lanes admit
  kept_at : (b : List Window) (w : Window) (a : List Window) → b ++ w ∷ a ≡ windows
      → AllByRecursion (λ (x : Placed). kept_in p.queries (last_of p b) w.0 (source_of x) ≡ kept_of p.queries windows w.0 x) pieces
  kept_at b w a e =
      let here : AreRising None (b ++ w ∷ a) = subst (AreRising None) (sym e) rising in
      let front : AreRising None (b ++ w ∷ []) = rising_front None (b ++ w ∷ []) a (subst (AreRising None) (sym (append_assoc b (w ∷ []) a)) here) in
      subst (λ ws. AllByRecursion (λ (x : Placed). kept_in p.queries (last_of p b) w.0 (source_of x) ≡ kept_of p.queries ws w.0 x) pieces) e
      (all_weaker (λ (x : Placed). kept_now p.queries (last_of p b) w.0 x ≡ kept_of p.queries (b ++ w ∷ []) w.0 x) (λ (x : Placed). kept_in p.queries (last_of p b) w.0 (source_of x) ≡ kept_of p.queries (b ++ w ∷ a) w.0 x)
      (λ x is. is ∙ sym (kept_is_causal p.queries b w.0 w.1 a here x)) pieces (all_admitted p b w.0 w.1 entries front))

  real_at : (b : List Window) (w : Window) (a : List Window) → b ++ w ∷ a ≡ windows → IsReal w
  real_at b w a e = all_at IsReal b w a (subst (AllByRecursion IsReal) (sym e) real)

  all_are_windows : AllByRecursion (λ (w : Window). IsWindow p.queries lanes (sent_of p windows w)) windows
  all_are_windows =
      each_among (λ (w : Window). IsWindow p.queries lanes (sent_of p windows w)) windows
      (λ b w a e. is_window typed_for p t entries can windows w.0 w.1 (real_at b w a e).1 (kept_in p.queries (last_of p b) w.0) (kept_at b w a e))

  all_are_frames : AllByRecursion (λ (w : Window). AllByRecursion (IsFrame 2) (window_frames p windows w.0 w.1)) windows
  all_are_frames =
      each_among (λ (w : Window). AllByRecursion (IsFrame 2) (window_frames p windows w.0 w.1)) windows
      (λ b w a e. are_frames typed_for p t entries can windows w.0 w.1 (real_at b w a e).1 (kept_in p.queries (last_of p b) w.0) (kept_at b w a e) (real_at b w a e).0)

  -- window by window, an engine that keeps what the lanes admit answers as the driver does
  along : (b a : List Window) (closed : Option ℕ) (sets : List Set) → b ++ a ≡ windows → Recalls p.queries pieces (last_of p b) closed sets
      → reports_answered p.queries lanes closed sets (map (sent_of p windows) a) ≡ answers_from p.queries p.tables p.entries (last_of p b) a
  along b [] closed sets e recalls = refl
  along b (w ∷ a) closed sets e recalls =
      let now : Answers = next_answers p b w.0 w.1 in
      let admitted : Source → Set = kept_in p.queries (last_of p b) w.0 in
      let later : List Sent = map (sent_of p windows) a in
      let more : last_of p (b ++ w ∷ []) ≡ Some now = last_more p b w.0 w.1 in
      let sets_next : List Set = gathered p.queries now.parts lanes in
      let kept_on : Recalls p.queries pieces (Some now) (Some w.0) sets_next =
      subst (λ (ls : List Intake). Recalls p.queries pieces (Some now) (Some w.0) (gathered p.queries now.parts ls)) (sym (intakes_are 0 p.entries)) (kept_next p.queries p.tables admitted w.1 w.0 now pieces refl) in
      ap (λ (x : Answers). x ∷ reports_answered p.queries lanes (Some w.0) (gathered p.queries x.parts lanes) later)
      (answers_are typed_for p t entries can windows w.0 w.1 (real_at b w a e).1 admitted (kept_at b w a e) closed sets (recalls w.0))
      ∙ ap (λ (xs : List Answers). now ∷ xs)
      (along (b ++ w ∷ []) a (Some w.0) sets_next (append_assoc b (w ∷ []) a ∙ e) (subst (λ (last : Option Answers). Recalls p.queries pieces last (Some w.0) sets_next) (sym more) kept_on)
      ∙ ap (λ (last : Option Answers). answers_from p.queries p.tables p.entries last a) more)

  abbrev sents : List Sent
  sents = map (sent_of p windows) windows

  abbrev found : List Answers
  found = reports_answered p.queries lanes None [] sents

  right : found ≡ map (λ w. answers_at p windows w.0) windows
  right = along [] windows None [] refl (recalls_none p.queries pieces None [] refl) ∙ all_windows p.queries p.tables p.entries windows entries rising

  blocks_are : blocks_of p.queries found ≡ flat_map (λ w. plan_block p windows w.0 w.1) windows
  blocks_are =
      let block : Answers → List ℕ = λ a. block_text p.queries a true in
      ap (flat_map block) right ∙ flat_map-map block (λ w. answers_at p windows w.0) windows

  sums_are : sum_by (λ (a : Answers). a.emitted) found ≡ emitted_in p windows
  sums_are =
      let sent_in : Answers → ℕ = λ a. a.emitted in
      ap (sum_by sent_in) right
      ∙ sum_is sent_in (map (λ w. answers_at p windows w.0) windows)
      ∙ ap sum (map_both (λ w. answers_at p windows w.0) sent_in windows)

  text_is : answered_text p.queries lanes sents ≡ flat_map (λ w. plan_block p windows w.0 w.1) windows ++ total_line (length windows) (Some (emitted_in p windows))
  text_is =
      let sent : ℕ = sum_by (λ (a : Answers). a.emitted) found in
      ap (λ (ts : List ℕ). ts ++ total_line (length sents) (Some sent)) blocks_are
      ∙ ap (λ n. flat_map (λ w. plan_block p windows w.0 w.1) windows ++ total_line n (Some sent)) (length-map windows (sent_of p windows))
      ∙ ap (λ n. flat_map (λ w. plan_block p windows w.0 w.1) windows ++ total_line (length windows) (Some n)) sums_are

  bytes_are : bytes_of (map as_sent (frames_in sents)) ≡ flat_map (λ w. frames_block p windows w.0 w.1) windows
  bytes_are =
      flat_map-map bytes_in as_sent (frames_in sents)
      ∙ ap (flat_map (spelling 2)) (flat_map-map (λ sent. sent.frames) (sent_of p windows) windows)
      ∙ flat_flat (λ w. window_frames p windows w.0 w.1) windows

  -- the frames of the windows are answered as the windows are along the plan
  pub replayed : 0 < length lanes → length (flat_map (λ (w : Window). frames_block p windows w.0 w.1) windows) ≤ most_text → (files : ByName (List ℕ)) (outcome : Outcome (Unit {0})) → Reported p.queries p.entries (flat_map (λ w. frames_block p windows w.0 w.1) windows) files outcome
      → outcome ≡ record { text = flat_map (λ w. plan_block p windows w.0 w.1) windows ++ total_line (length windows) (Some (emitted_in p windows)); end = Ok tt }
  replayed some few files outcome is =
      windows_answered p.queries p.entries sents some
      (subst HaveNames (sym (intakes_are 0 p.entries)) (have_names pieces (pieces_apart p.queries 0 p.entries entries)))
      (rise_of p windows None windows rising)
      (all_map (IsWindow p.queries lanes) (sent_of p windows) windows all_are_windows)
      (map as_sent (frames_in sents)) (frames_sent (frames_in sents))
      (all_map IsWritten as_sent (frames_in sents) (all_flat (IsFrame 2) (λ sent. sent.frames) sents (all_map (λ sent. AllByRecursion (IsFrame 2) sent.frames) (sent_of p windows) windows all_are_frames)))
      (subst (λ (bytes : List ℕ). length bytes ≤ most_text) (sym bytes_are) few)
      files outcome (subst (λ bytes. Reported p.queries p.entries bytes files outcome) (sym bytes_are) is)
      ∙ ap (λ (ts : List ℕ). record { text = ts; end = Ok tt }) text_is

pub fits_replayed : (typed_for : ℕ) (s : Switch) (p : Planned) (windows : List Window) → ∥ IsTyped typed_for p.queries ∥₁ → IsSwitch s → Fits p.queries s p.entries → 0 < length (intakes_of 0 p.entries) → AreRising None windows → AllByRecursion IsReal windows
    → length (flat_map (λ (w : Window). frames_block p windows w.0 w.1) windows) ≤ most_text → (files : ByName (List ℕ)) (outcome : Outcome (Unit {0})) → Reported p.queries p.entries (flat_map (λ w. frames_block p windows w.0 w.1) windows) files outcome
    → outcome ≡ record { text = flat_map (λ w. plan_block p windows w.0 w.1) windows ++ plan_lines p windows Clean; end = Ok tt }
fits_replayed typed_for s p windows t is fits some rising real few files outcome reported =
    replayed typed_for p t fits.paths (plan_made typed_for p.queries s p.entries t is fits) windows rising real some few files outcome reported
