-- The reports of whole windows are answered.
use Rattle.std.proofs.Common.{◌≡◌, ℕ, ◌+◌, ◌<◌, ◌≤◌, ◌^◌, nat_eq, ◌==◌, List, [], ◌∷◌, ◌++◌, map, length, get_or, drop, sum_by, true, false, cond, Option, None, Some, is_none, Result, Ok, Err, refl, ap, sym, subst, ◌∙◌, arith, append_assoc, append-nil}
use Rattle.std.specs.List.{AllByRecursion, list_any}
use Rattle.std.proofs.lemmas.Bool.{eq-eqb, le-ltb}
use Rattle.std.proofs.lemmas.List.{length-append, take_all}
use Rattle.sn_base.proofs.Lists.{all_append}
use Rattle.sn_engine.specs.declared.intake.Intake.{Intake}
use Rattle.sn_engine.specs.Answers.{parts_of, window_of}
use Rattle.sn_engine.specs.Intakes.{after_frame, first_open, has_started, intake_for, intakes_of, total}
use Rattle.sn_engine.specs.Keeping.{all_left, gathered, kept_for, prefixes_for}
use Rattle.sn_engine.specs.Taking.{is_above}
use Rattle.sn_engine.proofs.Firsts.{sum_cons}
use Rattle.sn_report.specs.Framed.{AreReports, Framed, IsWritten, Written, bytes_in, bytes_of}
use Rattle.sn_io.specs.Counts.{ByName}
use Rattle.sn_report.proofs.Cutting.{cut_once, frames_again}
use Rattle.sn_out.specs.Text.{block_text, total_line}
use Rattle.sn_plan_grammar.specs.declared.plan.Entry.{Entry}
use Rattle.sn_plan_grammar.specs.declared.plan.Piece.{Piece}
use Rattle.sn_report.specs.declared.decode.Decoded.TheVariants.{More}
use Rattle.sn_report.specs.Items.{Frame}
use Rattle.sn_report.specs.declared.frame.Frame.TheVariants.{Row, End}
use Rattle.sn_command.specs.declared.fault.ReportKind.TheVariants as kinds
use Rattle.sn_command.specs.declared.refusal.Refusal.{Refusal}
use Rattle.sn_command.specs.declared.fault.Fault.TheVariants.{TooLarge}
use Rattle.sn_command.specs.declared.refusal.Refusal.TheVariants.{Refused}
use Rattle.sn_command.specs.Outcomes.{Outcome, silent}
use Rattle.sn_command.specs.Stages.{most_text}
use Rattle.sn_report_reader.specs.Within.{within}
use Rattle.sn_refine.specs.Steps.{Set}
use Rattle.sn_types.specs.declared.answers.Answers.{Answers}
use Rattle.sn_types.specs.declared.answers.Part.{Part}
use Rattle.sn_types.specs.declared.typed_query.TypedQuery.{TypedQuery}
use Rattle.sn_command_finish.specs.Reported.{Reported, reported_from}
use Rattle.sn_command_finish.specs.Taken.{Standing, begun, close, close_ended, end_at, ended, followed, goes_on, refused_at, take_frame, take_frames, taken_unless}
use Rattle.sn_command_finish.specs.Whole.{HaveNames, IsIdle, IsWindow, Rise, Sent, answered_text, answers_from, answers_to, blocks_of, filled, frames_in, frames_of, name_of}
use Rattle.sn_command_finish.proofs.LaneLemmas.{after, frame_taken, lanes_after, lanes_before, lanes_emptied, lanes_filled, none_open, none_started, still_open}
use Rattle.sn_command_finish.proofs.ReportLemmas.{cut_here, followed_twice}

-- ---- outcomes

followed_same : {A B : Type 0} (first : Outcome A) (f g : A → Outcome B) → ((x : A) → f x ≡ g x) → followed first f ≡ followed first g
followed_same {A} {B} first f g same = of first.text first.end
  where
    of : (text : List ℕ) (end : Result A Refusal) → goes_on text end f ≡ goes_on text end g
    of text (Err refusal) = refl
    of text (Ok value) = ap (λ (o : Outcome B). record { text = text ++ o.text; end = o.end }) (same value)

frames_then : (queries : List TypedQuery) (at : ℕ) (xs ys : List Written) (s : Standing) → take_frames queries at (xs ++ ys) s ≡ followed (take_frames queries at xs s) (λ next. take_frames queries (at + length (bytes_of xs)) ys next)
frames_then queries at [] ys s = let here : at ≡ at + 0 = omega arith in ap (λ (n : ℕ). take_frames queries n ys s) here
frames_then queries at (x ∷ xs) ys s =
    let n : (at + length (bytes_in x)) + length (bytes_of xs) ≡ at + length (bytes_of (x ∷ xs)) = omega (arith, length-append (bytes_in x) (bytes_of xs)) in
    followed_same (take_frame queries at x.frame s) (λ next. take_frames queries (at + length (bytes_in x)) (xs ++ ys) next) (λ next. followed (take_frames queries (at + length (bytes_in x)) xs next) (λ last. take_frames queries ((at + length (bytes_in x)) + length (bytes_of xs)) ys last))
    (λ next. frames_then queries (at + length (bytes_in x)) xs ys next)
    ∙ sym (followed_twice (take_frame queries at x.frame s) (λ next. take_frames queries (at + length (bytes_in x)) xs next) (λ last. take_frames queries ((at + length (bytes_in x)) + length (bytes_of xs)) ys last))
    ∙ ap (λ (k : ℕ). followed (take_frames queries at (x ∷ xs) s) (λ last. take_frames queries k ys last)) n

-- ---- frames in versions

abbrev frame_of : Written → Frame
frame_of w = w.frame

-- what is written of two lists of frames
record IsSplit (all : List Written) (xs ys : List Frame) : Type 0 where
  first : List Written
  second : List Written
  whole : all ≡ first ++ second
  of_first : map frame_of first ≡ xs
  of_second : map frame_of second ≡ ys

split_written : (all : List Written) (xs ys : List Frame) → map frame_of all ≡ xs ++ ys → IsSplit all xs ys
split_written all [] ys e = record { first = []; second = all; whole = refl; of_first = refl; of_second = e }
split_written [] (x ∷ xs) ys e = absurd (let none = ap length e in omega (arith, none))
split_written (w ∷ all) (x ∷ xs) ys e =
    let rest = split_written all xs ys (ap (drop 1) e) in
    record {
      first = w ∷ rest.first;
      second = rest.second;
      whole = ap (λ (ws : List Written). w ∷ ws) rest.whole;
      of_first = ap (λ (fs : List Frame). w.frame ∷ fs) rest.of_first ∙ ap (λ (f : Frame). f ∷ xs) (ap (λ (fs : List Frame). get_or fs 0 x) e);
      of_second = rest.of_second;
    }

-- ---- one window

-- the lanes at such a standing
abbrev with_lanes : List Intake → Standing → Standing
with_lanes lanes s = record s { lanes = lanes }

some_none : (o : Option ℕ) → (o ≡ None → ⊥) → is_none o ≡ false
some_none None h = absurd (h refl)
some_none (Some n) h = refl

module _ (queries : List TypedQuery) (lanes : List Intake) (names : HaveNames lanes) (idle : AllByRecursion IsIdle lanes) (some : 0 < length lanes) where
  -- the answers of a window
  abbrev answers_at : Standing → Sent → Answers
  answers_at s sent = answers_to queries (kept_for s.closed s.kept sent.window) lanes sent

  -- after a window
  abbrev following : Standing → Sent → Standing
  following s sent = record {
    lanes = lanes;
    closed = Some sent.window;
    kept = gathered queries (answers_at s sent).parts lanes;
    windows = s.windows + 1;
    emitted = s.emitted + total (map (filled sent) lanes);
  }

  abbrev closed_window : Standing → Sent → Outcome Standing
  closed_window s sent = record { text = block_text queries (answers_at s sent) true; end = Ok (following s sent) }

  gathered_filled : (sent : Sent) (parts : List Part) (xs : List Intake) → gathered queries parts (map (filled sent) xs) ≡ gathered queries parts xs
  gathered_filled sent parts [] = refl
  gathered_filled sent parts (x ∷ xs) = ap (λ (sets : List Set). prefixes_for queries parts x ∷ sets) (gathered_filled sent parts xs)

  window_filled : (sent : Sent) (xs : List Intake) → 0 < length xs → window_of (map (filled sent) xs) ≡ sent.window
  window_filled sent [] none = absurd (omega arith)
  window_filled sent (x ∷ xs) here = refl

  module _ (sent : Sent) (window : IsWindow queries lanes sent) (s : Standing) (above : is_above s.closed sent.window ≡ true) where
    abbrev all : List Intake
    all = map (filled sent) lanes

    one_frame : (at : ℕ) (us : List Frame) (f : Frame) (vs : List Frame) → us ++ f ∷ vs ≡ sent.frames → take_frame queries at f (with_lanes (map (after us) lanes) s) ≡ close_ended queries (with_lanes (map (after (us ++ f ∷ [])) lanes) s)
    one_frame at us f vs whole =
        ap (λ o. taken_unless at o (close_ended queries (with_lanes (after_frame (map (after us) lanes) f) s))) (frame_taken queries lanes sent names idle window s.closed above us f vs whole)
        ∙ ap (λ (ls : List Intake). close_ended queries (with_lanes ls s)) (lanes_after us f lanes names)

    -- what is closed, where these lanes are left, this is the window, and these are what is kept
    abbrev parts_at : ℕ → List Part
    parts_at n = parts_of queries (all_left queries (kept_for s.closed s.kept n) all)

    abbrev closed_as : List Intake → ℕ → List Set → Outcome Standing
    closed_as ls n sets = record {
      text = block_text queries (record { window = n; emitted = total all; parts = parts_at n }) true;
      end = Ok (record { lanes = ls; closed = Some n; kept = sets; windows = s.windows + 1; emitted = s.emitted + total all });
    }

    last_frame : close_ended queries (with_lanes all s) ≡ closed_window s sent
    last_frame =
        let number : window_of all ≡ sent.window = window_filled sent lanes some in
        ap (λ (o : Option ℕ). cond (is_none o) (close queries (with_lanes all s)) (silent (Ok (with_lanes all s)))) (none_open sent lanes)
        ∙ ap (λ (ls : List Intake). closed_as ls (window_of all) (gathered queries (parts_at (window_of all)) all)) (lanes_emptied sent lanes idle)
        ∙ ap (λ (n : ℕ). closed_as lanes n (gathered queries (parts_at n) all)) number
        ∙ ap (closed_as lanes sent.window) (gathered_filled sent (parts_at sent.window) lanes)

    window_goes : (at : ℕ) (us : List Frame) (w : Written) (vs : List Written) → us ++ w.frame ∷ map frame_of vs ≡ sent.frames → take_frames queries at (w ∷ vs) (with_lanes (map (after us) lanes) s) ≡ closed_window s sent
    window_goes at us w [] whole =
        let f : Frame = w.frame in
        ap (λ (o : Outcome Standing). followed o (λ next. silent (Ok next)))
        (one_frame at us f [] whole ∙ ap (λ (fs : List Frame). close_ended queries (with_lanes (map (after fs) lanes) s)) whole ∙ ap (λ (ls : List Intake). close_ended queries (with_lanes ls s)) (lanes_filled queries lanes sent names idle window) ∙ last_frame)
        ∙ ap (λ (t : List ℕ). record { text = t; end = Ok (following s sent) }) (append-nil (block_text queries (answers_at s sent) true))
    window_goes at us w (v ∷ vs) whole =
        let f : Frame = w.frame in
        let next : (us ++ f ∷ []) ++ v.frame ∷ map frame_of vs ≡ sent.frames = append_assoc us (f ∷ []) (v.frame ∷ map frame_of vs) ∙ whole in
        let now : Standing = with_lanes (map (after (us ++ f ∷ [])) lanes) s in
        let unended : is_none (first_open now.lanes) ≡ false = some_none (first_open now.lanes) (still_open queries lanes sent names idle window s.closed above (us ++ f ∷ []) v.frame (map frame_of vs) next) in
        ap (λ (o : Outcome Standing). followed o (λ then. take_frames queries (at + length (bytes_in w)) (v ∷ vs) then))
        (one_frame at us f (v.frame ∷ map frame_of vs) whole ∙ ap (λ b. cond b (close queries now) (silent (Ok now))) unended)
        ∙ window_goes (at + length (bytes_in w)) (us ++ f ∷ []) v vs next

    empty : [] ≡ sent.frames → (xs : List Intake) → 0 < length xs → AllByRecursion (λ x. frames_of x sent.frames ≡ map (Row (name_of x)) (sent.items x) ++ End (name_of x) sent.window ∷ []) xs → ⊥
    empty none [] few each = omega arith
    empty none (x ∷ xs) few each =
        let e = ap length (ap (frames_of x) none ∙ each.0) in
        omega (arith, e, length-append (map (Row (name_of x)) (sent.items x)) (End (name_of x) sent.window ∷ []))

    whole_window : (at : ℕ) (ws : List Written) → map frame_of ws ≡ sent.frames → s.lanes ≡ lanes → take_frames queries at ws s ≡ closed_window s sent
    whole_window at [] none same = absurd (empty none lanes some window.each)
    whole_window at (w ∷ ws) is same =
        ap (λ (ls : List Intake). take_frames queries at (w ∷ ws) (with_lanes ls s)) (same ∙ sym (lanes_before lanes))
        ∙ window_goes at [] w ws is

  -- ---- all windows

  abbrev after_all : Standing → List Sent → Standing
  after_all s [] = s
  after_all s (sent ∷ later) = after_all (following s sent) later

  all_windows : (at : ℕ) (windows : List Sent) (written : List Written) (s : Standing) → map frame_of written ≡ frames_in windows → s.lanes ≡ lanes → Rise s.closed windows → AllByRecursion (IsWindow queries lanes) windows
      → take_frames queries at written s ≡ record { text = blocks_of queries (answers_from queries lanes s.closed s.kept windows); end = Ok (after_all s windows) }
  all_windows at [] [] s is same rise each = refl
  all_windows at [] (w ∷ ws) s is same rise each = absurd (let none = ap length is in omega (arith, none))
  all_windows at (sent ∷ later) written s is same rise each =
      let p = split_written written sent.frames (frames_in later) is in
      let next : ℕ = at + length (bytes_of p.first) in
      ap (λ (ws : List Written). take_frames queries at ws s) p.whole
      ∙ frames_then queries at p.first p.second s
      ∙ ap (λ (o : Outcome Standing). followed o (λ last. take_frames queries next p.second last)) (whole_window sent each.0 s rise.0 at p.first p.of_first same)
      ∙ ap (λ (o : Outcome Standing). record { text = block_text queries (answers_at s sent) true ++ o.text; end = o.end }) (all_windows next later p.second (following s sent) p.of_second refl rise.1 each.1)

  record IsAfter (s : Standing) (windows : List Sent) : Type 0 where
    lanes_are : (after_all s windows).lanes ≡ lanes
    count : (after_all s windows).windows ≡ s.windows + length windows
    emitted : (after_all s windows).emitted ≡ s.emitted + sum_by (λ (a : Answers). a.emitted) (answers_from queries lanes s.closed s.kept windows)

  is_after : (windows : List Sent) (s : Standing) → s.lanes ≡ lanes → IsAfter s windows
  is_after [] s same = record { lanes_are = same; count = omega arith; emitted = omega arith }
  is_after (sent ∷ later) s same =
      let rest = is_after later (following s sent) refl in
      let count = rest.count in
      let emitted = rest.emitted in
      record {
        lanes_are = rest.lanes_are;
        count = omega (arith, count);
        emitted = omega (arith, emitted, sum_cons (λ (a : Answers). a.emitted) (answers_at s sent) (answers_from queries lanes (following s sent).closed (following s sent).kept later));
      }

  abbrev all_reported : Standing → List Sent → Outcome (Unit {0})
  all_reported s windows =
      let found : List Answers = answers_from queries lanes s.closed s.kept windows in
      record { text = blocks_of queries found ++ total_line (length windows) (Some (sum_by (λ (a : Answers). a.emitted) found)); end = Ok tt }

  whole_reports : (windows : List Sent) (written : List Written) (s : Standing) → map frame_of written ≡ frames_in windows → length (bytes_of written) ≤ most_text → s.lanes ≡ lanes → s.windows ≡ 0 → s.emitted ≡ 0 → Rise s.closed windows → AllByRecursion (IsWindow queries lanes) windows
      → reported_from queries 0 (length (bytes_of written)) (record { frames = written; left = More }) s ≡ all_reported s windows
  whole_reports windows written s frames few same none zero rise each =
      let size : ℕ = length (bytes_of written) in
      let last : Standing = after_all s windows in
      let found : List Answers = answers_from queries lanes s.closed s.kept windows in
      let blocks : List ℕ = blocks_of queries found in
      let is = is_after windows s same in
      let at_end : (0 + size == size) ≡ true = eq-eqb (0 + size) size (omega arith) in
      let closed : list_any has_started last.lanes ≡ false = ap (list_any has_started) is.lanes_are ∙ none_started lanes idle in
      let counted : last.windows ≡ length windows = (let c = is.count in omega (arith, c, none)) in
      let sent_is : last.emitted ≡ sum_by (λ (a : Answers). a.emitted) found = (let e = is.emitted in omega (arith, e, zero)) in
      let total_is : ended size last ≡ record { text = total_line (length windows) (Some (sum_by (λ (a : Answers). a.emitted) found)); end = Ok tt } =
      ap (λ b. cond b (refused_at kinds.Unfinished size) (record { text = total_line last.windows (Some last.emitted); end = Ok tt })) closed
      ∙ ap (λ (n : ℕ). record { text = total_line n (Some last.emitted); end = Ok tt }) counted
      ∙ ap (λ (n : ℕ). record { text = total_line (length windows) (Some n); end = Ok tt }) sent_is in
      ap (λ (o : Outcome Standing). followed o (λ l. end_at (0 + size) size More l)) (all_windows 0 windows written s frames same rise each)
      ∙ ap (λ (o : Outcome (Unit {0})). record { text = blocks ++ o.text; end = o.end }) (ap (λ b. cond b (silent (Err (Refused TooLarge))) (cond (nat_eq (0 + size) size) (ended size last) (refused_at kinds.Cut (0 + size)))) (le-ltb most_text size few)
      ∙ ap (λ b. cond b (ended size last) (refused_at kinds.Cut (0 + size))) at_end ∙ total_is)

-- ---- the reports of a plan

pieces_idle : (q : ℕ) (path : List ℕ) (pieces : List Piece) → AllByRecursion IsIdle (map (intake_for q path) pieces)
pieces_idle q path [] = tt
pieces_idle q path (p ∷ ps) = (record { items = refl; end = refl }, pieces_idle q path ps)

pub entries_idle : (q : ℕ) (entries : List Entry) → AllByRecursion IsIdle (intakes_of q entries)
entries_idle q [] = tt
entries_idle q (e ∷ es) = all_append IsIdle (map (intake_for q e.levels) e.pieces) (intakes_of (q + 1) es) (pieces_idle q e.levels e.pieces) (entries_idle (q + 1) es)

pub windows_answered : (queries : List TypedQuery) (entries : List Entry) (windows : List Sent) → 0 < length (intakes_of 0 entries) → HaveNames (intakes_of 0 entries) → Rise None windows → AllByRecursion (IsWindow queries (intakes_of 0 entries)) windows
    → (written : List Written) → map frame_of written ≡ frames_in windows → AllByRecursion IsWritten written → length (bytes_of written) ≤ most_text
    → (files : ByName (List ℕ)) (outcome : Outcome (Unit {0})) → Reported queries entries (bytes_of written) files outcome → outcome ≡ record { text = answered_text queries (intakes_of 0 entries) windows; end = Ok tt }
windows_answered queries entries windows some names rise each written are frames few files outcome t =
    let bytes : List ℕ = bytes_of written in
    let all : within bytes ≡ bytes = take_all (2 ^ 30) bytes few in
    let c = cut_here (within bytes) (λ framed. reported_from queries 0 (length bytes) framed (begun entries)) files outcome t in
    let is : AreReports bytes c.framed.frames c.framed.left = subst (λ (xs : List ℕ). AreReports xs c.framed.frames c.framed.left) all c.is in
    let same : c.framed ≡ record { frames = written; left = More } = cut_once bytes c.framed (record { frames = written; left = More }) is (frames_again written frames) in
    c.same ∙ ap (λ (f : Framed). reported_from queries 0 (length bytes) f (begun entries)) same
    ∙ whole_reports queries (intakes_of 0 entries) names (entries_idle 0 entries) some windows written (begun entries) are few refl refl refl rise each
