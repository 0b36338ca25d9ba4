-- The turns of the loop that reads reports and takes their frames, over plain values.
use Rattle.std.proofs.Common.{◌≡◌, ℕ, ◌+◌, ◌≤◌, ◌^◌, nat_eq, List, [], ◌∷◌, length, drop, cond, Option, Some, None, Result, Ok, Err, IfSome, IsErrOf, is_some, inl, refl, ap, sym, ◌∙◌, subst, arith}
use Rattle.std.specs.FinMap.{get}
use Rattle.std.proofs.lemmas.Bool.{true≢false, eq-eqb, ne_eqb, le-ltb, lt-ltb}
use Rattle.std.proofs.lemmas.List.{drop_all, length-take}
use Rattle.sn_io.specs.Counts.{ByName, OnlyRises, RoseAt}
use Rattle.sn_io.specs.Inputs.{stated_file}
use Rattle.sn_io.specs.declared.inputs.ReadError.{ReadError}
use Rattle.sn_io.specs.declared.inputs.ReadError.TheVariants as errors
use Rattle.sn_pcap.proofs.ReportedLemmas.{at_reported}
use Rattle.sn_report.specs.declared.decode.Decoded.TheVariants.{More, Bad}
use Rattle.sn_report.specs.Decoding.{Stands}
use Rattle.sn_report.specs.Items.{Frame}
use Rattle.sn_report.proofs.Cutting.{nothing_left}
use Rattle.sn_report_reader.specs.Within.{within}
use Rattle.sn_report_reader.specs.Reading.{Follows as ReaderFollows, IsStep, ReaderState, made, rest_of}
use Rattle.sn_report_reader.specs.declared.reader.Next.{Next}
use Rattle.sn_report_reader.specs.declared.reader.Next.TheVariants as next
use Rattle.sn_command.specs.declared.fault.Fault.TheVariants.{TooLarge}
use Rattle.sn_command.specs.declared.fault.ReportKind.TheVariants as kinds
use Rattle.sn_command.specs.declared.refusal.Refusal.{Refusal}
use Rattle.sn_command.specs.declared.refusal.Refusal.TheVariants.{Missing, Refused}
use Rattle.sn_command.specs.Outcomes.{Outcome, Stage, silent}
use Rattle.sn_command.specs.Refusals.{read_refusal}
use Rattle.sn_command.specs.Runs.{Leads, Runs}
use Rattle.sn_command.specs.Stages.{Does, GoesOn, Then, most_text}
use Rattle.sn_command.specs.Worlds.{Files, Follows, Spares, World}
use Rattle.sn_command.proofs.FileLemmas.{none_other, some_if}
use Rattle.sn_command.proofs.StageLemmas.{runs_earlier, runs_gives, runs_read_fault}
use Rattle.sn_command_capture.specs.Capture.{Whole, known_bytes}
use Rattle.sn_command_capture.proofs.StreamLemmas.{file_known, read_follows, runs_memory, runs_read, turn_ends, turn_goes, turn_stops}
use Rattle.sn_command_capture.proofs.TurnLemmas.{read_on}
use Rattle.sn_engine.specs.declared.intake.Intake.{Intake}
use Rattle.sn_engine.specs.Intakes.{intakes_of}
use Rattle.sn_plan_grammar.specs.declared.plan.Entry.{Entry}
use Rattle.sn_refine.specs.Steps.{Set}
use Rattle.sn_types.specs.declared.typed_query.TypedQuery.{TypedQuery}
use Rattle.sn_command_finish.specs.Taken.{Standing, begun, end_at, ended, fault_at, refused_at, take_frame}
use Rattle.sn_command_finish.proofs.ReportLemmas.{LeftOver, rest_after, splits, stops_here}

-- ---- stages over a known file

-- a stage goes on from the bytes of a known file
in_file : {B : Type 0} (second : List ℕ → Stage B) (files : ByName (List ℕ)) (name file : List ℕ) (outcome : Outcome B) → get files name ≡ Some file → Then (Whole name) second files outcome → second file files outcome
in_file {B} second files name file outcome held t =
    let begun : t.begun ≡ silent (Ok file) = t.begins ∙ ap (λ (o : Option (List ℕ)). silent (known_bytes o)) held in
    let goes : GoesOn second files [] (Ok file) outcome = subst (λ (o : Outcome (List ℕ)). GoesOn second files o.text o.end outcome) begun t.goes_on in
    subst (λ (o : Outcome B). second file files o) (sym goes.2) goes.1

of_file : {B : Type 0} (second : List ℕ → Stage B) (files : ByName (List ℕ)) (name file : List ℕ) (outcome : Outcome B) → get files name ≡ Some file → second file files outcome → Then (Whole name) second files outcome
of_file second files name file outcome held is = record {
  begun = silent (Ok file);
  begins = sym (ap (λ (o : Option (List ℕ)). silent (known_bytes o)) held);
  goes_on = (outcome, is, refl);
}

-- where the name isn't known, it refuses
no_file : {B : Type 0} (second : List ℕ → Stage B) (files : ByName (List ℕ)) (name : List ℕ) (outcome : Outcome B) → get files name ≡ None → Then (Whole name) second files outcome → outcome ≡ silent (Err Missing)
no_file second files name outcome none t =
    let begun : t.begun ≡ silent (Err Missing) = t.begins ∙ ap (λ (o : Option (List ℕ)). silent (known_bytes o)) none in
    subst (λ (o : Outcome (List ℕ)). GoesOn second files o.text o.end outcome) begun t.goes_on

then_weaker : {A B : Type 0} (first : Stage A) (second other : A → Stage B) (files : ByName (List ℕ)) (outcome : Outcome B) → ((a : A) (o : Outcome B) → second a files o → other a files o) → Then first second files outcome → Then first other files outcome
then_weaker {A} {B} first second other files outcome weaker t = record { begun = t.begun; begins = t.begins; goes_on = of t.begun.text t.begun.end t.goes_on }
  where
    of : (text : List ℕ) (end : Result A Refusal) → GoesOn second files text end outcome → GoesOn other files text end outcome
    of text (Err refusal) goes = goes
    of text (Ok a) goes = (goes.0, weaker a goes.0 goes.1, goes.2)

-- ---- what is left

-- what is left of the reports in the file of this name, from this byte on
abbrev pub LeftIn : List TypedQuery → List ℕ → ℕ → Standing → Stage (Unit {0})
LeftIn queries name at s = Then (Whole name) (λ file. LeftOver queries at (length file) (drop at (within file)) s)

-- one call of the reader, over known files
record IsHere (queries : List TypedQuery) (name : List ℕ) (before now : ReaderState) (s : Standing) (answer : Result Next ReadError) (files : ByName (List ℕ)) (outcome : Outcome (Unit {0})) : Type 0 where
  file : List ℕ
  held : get files name ≡ Some file
  step : IsStep file before answer now
  left : LeftOver queries before.offset (length file) (rest_of file before) s files outcome

module _ (queries : List TypedQuery) (name : List ℕ) (before now : ReaderState) (s : Standing) (reported : Option (ByName (List ℕ))) (counts : ByName ℕ) (files : ByName (List ℕ)) (outcome : Outcome (Unit {0})) (same : reported ≡ Some files) (law : is_some (get files name) ≡ is_some (get counts name)) (known : get counts name ≡ None → ⊥)
    (t : LeftIn queries name before.offset s files outcome) where
  here : (answer : Result Next ReadError) → IfSome (stated_file reported name) (λ file. IsStep file before answer now) → IsHere queries name before now s answer files outcome
  here answer step =
      let found = file_known files counts name law (some_if (get counts name) known) in
      record {
        file = found.0;
        held = found.1;
        step = at_reported (λ file. IsStep file before answer now) (stated_file reported name) found.0 (ap (λ (o : Option (ByName (List ℕ))). stated_file o name) same ∙ found.1) step;
        left = in_file (λ file. LeftOver queries before.offset (length file) (drop before.offset (within file)) s) files name found.0 outcome found.1 t;
      }

  -- a frame is taken, and the reports go on after it
  frame_left : (frame : Frame) → IfSome (stated_file reported name) (λ file. IsStep file before (Ok (next.Frame frame)) now) → Then (Does (take_frame queries before.offset frame s)) (λ later. LeftIn queries name now.offset later) files outcome
  frame_left frame step = of (here (Ok (next.Frame frame)) step)
    where
      of : IsHere queries name before now s (Ok (next.Frame frame)) files outcome → Then (Does (take_frame queries before.offset frame s)) (λ later. LeftIn queries name now.offset later) files outcome
      of h =
          let len : ℕ = h.step.0 in
          let file : List ℕ = h.file in
          then_weaker (Does (take_frame queries before.offset frame s)) (λ later. LeftOver queries (before.offset + len) (length file) (drop len (rest_of file before)) later) (λ later. LeftIn queries name now.offset later) files outcome
          (λ later o left. of_file (λ f. LeftOver queries now.offset (length f) (drop now.offset (within f)) later) files name file o h.held
          (subst (λ (n : ℕ). LeftOver queries n (length file) (drop n (within file)) later files o) (sym h.step.2)
          (subst (λ (rest : List ℕ). LeftOver queries (before.offset + len) (length file) rest later files o) (rest_after (within file) before.offset len) left)))
          (splits queries before.offset (length file) (rest_of file before) s frame len h.step.1 files outcome h.left)

  -- no frame has this byte
  bad_left : (at : ℕ) → IfSome (stated_file reported name) (λ file. IsStep file before (Ok (next.Bad at)) now) → outcome ≡ refused_at kinds.Bad at
  bad_left at step = of (here (Ok (next.Bad at)) step)
    where
      of : IsHere queries name before now s (Ok (next.Bad at)) files outcome → outcome ≡ refused_at kinds.Bad at
      of h = stops_here queries before.offset (length h.file) (rest_of h.file before) s (Bad h.step.0) h.step.1 tt files outcome h.left ∙ ap (λ (n : ℕ). refused_at kinds.Bad n) (sym h.step.2)

  few_end : (at size : ℕ) → size ≤ most_text → end_at at size More s ≡ cond (nat_eq at size) (ended size s) (refused_at kinds.Cut at)
  few_end at size few = ap (λ b. cond b (silent (Err (Refused TooLarge))) (cond (nat_eq at size) (ended size s) (refused_at kinds.Cut at))) (le-ltb most_text size few)

  -- the file ends in a frame that goes on
  cut_left : IfSome (stated_file reported name) (λ file. IsStep file before (Ok next.Cut) now) → outcome ≡ refused_at kinds.Cut before.offset
  cut_left step = of (here (Ok next.Cut) step)
    where
      of : IsHere queries name before now s (Ok next.Cut) files outcome → outcome ≡ refused_at kinds.Cut before.offset
      of h =
          let within_file = h.step.1 in
          stops_here queries before.offset (length h.file) (rest_of h.file before) s More h.step.0 tt files outcome h.left
          ∙ few_end before.offset (length h.file) h.step.2
          ∙ ap (λ b. cond b (ended (length h.file) s) (refused_at kinds.Cut before.offset)) (ne_eqb before.offset (length h.file) (λ e. omega (arith, within_file, e)))

  -- it ends after a frame
  end_left : IfSome (stated_file reported name) (λ file. IsStep file before (Ok next.End) now) → outcome ≡ ended before.offset s
  end_left step = of (here (Ok next.End) step)
    where
      of : IsHere queries name before now s (Ok next.End) files outcome → outcome ≡ ended before.offset s
      of h =
          let at = h.step.0 in
          let none : rest_of h.file before ≡ [] = drop_all before.offset (within h.file) (omega (arith, at, length-take (2 ^ 30) h.file)) in
          stops_here queries before.offset (length h.file) (rest_of h.file before) s More (subst (λ (xs : List ℕ). Stands xs More) (sym none) nothing_left) tt files outcome h.left
          ∙ few_end before.offset (length h.file) h.step.1
          ∙ ap (λ b. cond b (ended (length h.file) s) (refused_at kinds.Cut before.offset)) (eq-eqb before.offset (length h.file) at)
          ∙ ap (λ (n : ℕ). ended n s) (sym at)

  -- it goes on past the bytes that are read
  large_left : IfSome (stated_file reported name) (λ file. IsStep file before (Err errors.TooLarge) now) → outcome ≡ silent (Err (Refused TooLarge))
  large_left step = of (here (Err errors.TooLarge) step)
    where
      of : IsHere queries name before now s (Err errors.TooLarge) files outcome → outcome ≡ silent (Err (Refused TooLarge))
      of h =
          let at : ℕ = before.offset in
          let size : ℕ = length h.file in
          stops_here queries at size (rest_of h.file before) s More h.step.0 tt files outcome h.left
          ∙ ap (λ b. cond b (silent (Err (Refused TooLarge))) (cond (nat_eq at size) (ended size s) (refused_at kinds.Cut at))) (lt-ltb most_text size h.step.1)

-- ---- the turns

-- an engine that was made stands as before any frame
pub begun_is : (entries : List Entry) (lanes : List Intake) (closed : Option ℕ) (kept : List Set) → lanes ≡ intakes_of 0 entries → closed ≡ None → kept ≡ []
    → ◌≡◌ {A = Standing} (record { lanes = lanes; closed = closed; kept = kept; windows = 0; emitted = 0 }) (begun entries)
begun_is entries lanes closed kept are none empty = rw (are, none, empty) refl

-- a reader that was made follows every file
pub follows_first : (reported : Option (List ℕ)) (reader : ReaderState) → reader ≡ made → IfSome reported (λ file. ReaderFollows file reader)
follows_first reported reader is = rw is (of reported)
  where
    of : (reported : Option (List ℕ)) → IfSome reported (λ file. ReaderFollows file made)
    of None = tt
    of (Some file) = record { within_file = omega arith; held = refl }

-- over files with known contents, a name that isn't known has no file
unknown_there : (held : Option (List ℕ)) (count : Option ℕ) → is_some held ≡ is_some count → count ≡ None → held ≡ None
unknown_there None count law none = refl
unknown_there (Some file) count law none = absurd (true≢false (law ∙ ap is_some none))

-- before any frame, the whole is left
pub leads_first : {names : List (List ℕ)} {whole : Stage (Unit {0})} (w : World) → Leads names whole whole w w
leads_first w = λ answer later r. r

module _ (queries : List TypedQuery) (name : List ℕ) (before now : ReaderState) (s : Standing) (whole : Stage (Unit {0})) (first last : World) (files : Files) (reported : files.reported ≡ last.files.reported) (rises : OnlyRises name last.files.faults files.faults)
    (law : (held : ByName (List ℕ)) (other : List ℕ) → last.files.reported ≡ Some held → is_some (get held other) ≡ is_some (get last.files.faults other)) (leads : Leads (name ∷ []) (LeftIn queries name before.offset s) whole first last) where
  abbrev StepHere : Result Next ReadError → Type 0
  StepHere answer = IfSome (stated_file last.files.reported name) (λ file. IsStep file before answer now)

  abbrev Known : Type 0
  Known = get last.files.faults name ≡ None → ⊥

  follows : Follows last (read_on last files)
  follows = read_follows name last (read_on last files) reported rises refl refl

  spares : Spares (name ∷ []) last.files files
  spares = none_other name last.files.faults files.faults rises

  -- a frame is taken, and the reports go on
  pub frame_goes : (frame : Frame) (later : Standing) (end : World) → Known → StepHere (Ok (next.Frame frame)) → Runs [] (Does (take_frame queries before.offset frame s)) (read_on last files) (Ok later) end → Leads (name ∷ []) (LeftIn queries name now.offset later) whole first end
  frame_goes frame later end known step r =
      turn_goes follows spares refl (λ held same outcome t. frame_left queries name before now s last.files.reported last.files.faults held outcome same (law held name same) known t frame step) leads r

  -- a frame is refused, or its window isn't written
  pub frame_stops : (frame : Frame) (refusal : Refusal) (end : World) → Known → StepHere (Ok (next.Frame frame)) → Runs [] (Does (take_frame queries before.offset frame s)) (read_on last files) (Err refusal) end → Runs (name ∷ []) whole first (Err refusal) end
  frame_stops frame refusal end known step r =
      turn_stops follows spares refl (λ held same outcome t. frame_left queries name before now s last.files.reported last.files.faults held outcome same (law held name same) known t frame step) leads r

  -- no frame has this byte
  pub bad_stops : (at : ℕ) → Known → StepHere (Ok (next.Bad at)) → Runs (name ∷ []) whole first (Err (Refused (fault_at kinds.Bad at))) (read_on last files)
  bad_stops at known step =
      turn_ends {due = refused_at kinds.Bad at} follows spares refl (λ held same outcome t. bad_left queries name before now s last.files.reported last.files.faults held outcome same (law held name same) known t at step) leads
      (runs_gives (Err (fault_at kinds.Bad at)) (read_on last files) tt)

  -- the file ends in a frame that goes on
  pub cut_stops : Known → StepHere (Ok next.Cut) → Runs (name ∷ []) whole first (Err (Refused (fault_at kinds.Cut before.offset))) (read_on last files)
  cut_stops known step =
      turn_ends {due = refused_at kinds.Cut before.offset} follows spares refl (λ held same outcome t. cut_left queries name before now s last.files.reported last.files.faults held outcome same (law held name same) known t step) leads
      (runs_gives (Err (fault_at kinds.Cut before.offset)) (read_on last files) tt)

  -- it ends after a frame
  pub end_goes : (answer : Result (Unit {0}) Refusal) (end : World) → Known → StepHere (Ok next.End) → Runs [] (Does (ended before.offset s)) (read_on last files) answer end → Runs (name ∷ []) whole first answer end
  end_goes answer end known step r =
      turn_ends {due = ended before.offset s} follows spares refl (λ held same outcome t. end_left queries name before now s last.files.reported last.files.faults held outcome same (law held name same) known t step) leads r

  missing_left : get last.files.faults name ≡ None → (held : ByName (List ℕ)) → last.files.reported ≡ Some held → (outcome : Outcome (Unit {0})) → LeftIn queries name before.offset s held outcome → outcome ≡ silent (Err Missing)
  missing_left none held same outcome t =
      no_file (λ file. LeftOver queries before.offset (length file) (drop before.offset (within file)) s) held name outcome (unknown_there (get held name) (get last.files.faults name) (law held name same) none) t

  missing_stops : get last.files.faults name ≡ None → Runs (name ∷ []) whole first (Err Missing) (read_on last files)
  missing_stops none =
      leads (Err Missing) (read_on last files)
      (runs_read name (LeftIn queries name before.offset s) (Err Missing) last (read_on last files) follows spares refl (λ e. absurd cc) (λ e. absurd cc) (λ e. none) (λ e. absurd cc) (λ fault e. absurd cc) (missing_left none))

  -- the reports can't be read on
  pub error_stops : (error : ReadError) → (IsErrOf {T = Next} (Err error) errors.Missing → get last.files.faults name ≡ None) → (get last.files.faults name ≡ None → IsErrOf {T = Next} (Err error) errors.Missing) → (IsErrOf {T = Next} (Err error) errors.ReadFault → RoseAt name last.files.faults files.faults)
      → StepHere (Err error) → Runs (name ∷ []) whole first (Err (read_refusal error)) (read_on last files)
  error_stops errors.Missing missing unknown fault step = missing_stops (missing refl)
  error_stops errors.ReadFault missing unknown fault step = leads (Err _) (read_on last files) (runs_read_fault follows spares refl (inl (fault refl)))
  error_stops errors.TooLarge missing unknown fault step =
      turn_ends {due = silent (Err (Refused TooLarge))} follows spares refl (λ held same outcome t. large_left queries name before now s last.files.reported last.files.faults held outcome same (law held name same) (λ none. let no = unknown none in absurd cc) t step) leads
      (runs_gives (Err TooLarge) (read_on last files) tt)
  error_stops errors.Memory missing unknown fault step = leads (Err _) (read_on last files) (runs_earlier follows spares refl (runs_memory (name ∷ []) (LeftIn queries name before.offset s) (read_on last files)))
