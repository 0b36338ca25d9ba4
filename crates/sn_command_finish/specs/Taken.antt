-- to be believed
-- What frames of reports leave of an engine, and the text that they add.
use Rattle.std.specs.Prelude.{ℕ, ◌+◌, List, [], ◌∷◌, ◌++◌, map, length, true, ◌==◌, nat_lt, is_none, Option, None, Some, Result, Ok, Err, if◌then◌else◌}
use Rattle.std.specs.List.{list_any}
use Rattle.sn_engine.specs.declared.fault.TakeFault.{TakeFault}
use Rattle.sn_engine.specs.declared.fault.TakeFault.TheVariants as takes
use Rattle.sn_engine.specs.declared.intake.Intake.{Intake}
use Rattle.sn_engine.specs.Answers.{answers_of, window_of}
use Rattle.sn_engine.specs.Intakes.{after_frame, emptied, first_open, has_started, intakes_of, total}
use Rattle.sn_engine.specs.Keeping.{gathered, kept_for}
use Rattle.sn_engine.specs.Taking.{take_fault}
use Rattle.sn_out.specs.Text.{block_text, total_line}
use Rattle.sn_plan_grammar.specs.declared.plan.Entry.{Entry}
use Rattle.sn_report.specs.declared.decode.Decoded.{Decoded}
use Rattle.sn_report.specs.declared.decode.Decoded.TheVariants as decoded
use Rattle.sn_report.specs.Items.{Frame}
use Rattle.sn_report.specs.Framed.{Written, bytes_in}
use Rattle.sn_command.specs.declared.fault.Fault.{Fault}
use Rattle.sn_command.specs.declared.fault.Fault.TheVariants as faults
use Rattle.sn_command.specs.declared.fault.ReportKind.{ReportKind}
use Rattle.sn_command.specs.declared.fault.ReportKind.TheVariants as kinds
use Rattle.sn_command.specs.declared.refusal.Refusal.{Refusal}
use Rattle.sn_command.specs.declared.refusal.Refusal.TheVariants.{Refused}
use Rattle.sn_command.specs.Outcomes.{Outcome, silent}
use Rattle.sn_command.specs.Stages.{most_text}
use Rattle.sn_refine.specs.Steps.{Set}
use Rattle.sn_types.specs.declared.answers.Answers.{Answers}
use Rattle.sn_types.specs.declared.typed_query.TypedQuery.{TypedQuery}

-- ---- the faults of reports

-- reports are at fault for this, at this byte
abbrev pub fault_at : ReportKind → ℕ → Fault
fault_at kind at = faults.Reports (record { kind = kind; at = at })

abbrev pub refused_at : {A : Type 0} → ReportKind → ℕ → Outcome A
refused_at kind at = silent (Err (Refused (fault_at kind at)))

-- Why a frame isn't taken, as a fault of reports. Being out of memory is no fault of a frame, so what stands beside it here is
-- never reported.
abbrev pub kind_of : TakeFault → ReportKind
kind_of takes.Stranger = kinds.Stranger
kind_of takes.Width = kinds.Width
kind_of takes.AfterEnd = kinds.AfterEnd
kind_of takes.Window = kinds.Window
kind_of takes.Memory = kinds.Unfinished

-- a frame that begins at this byte is taken, or refused for the first of these faults
abbrev pub take_verdict : ℕ → Option TakeFault → Result (Unit {0}) Fault
take_verdict at None = Ok tt
take_verdict at (Some fault) = Err (fault_at (kind_of fault) at)

-- ---- one outcome after another

-- What follows an outcome: nothing after a refusal, and after a value what goes on from it.
abbrev pub goes_on : {A B : Type 0} → List ℕ → Result A Refusal → (A → Outcome B) → Outcome B
goes_on text (Err refusal) second = record { text = text; end = Err refusal }
goes_on text (Ok value) second = record { text = text ++ (second value).text; end = (second value).end }

abbrev pub followed : {A B : Type 0} → Outcome A → (A → Outcome B) → Outcome B
followed first second = goes_on first.text first.end second

-- ---- frames

-- what came of the reports so far: the lanes, the window that was closed last and the prefixes that are kept of it, how many windows
-- were closed, and how many items came in them
pub record Standing : Type 0 where
  pub lanes : List Intake
  pub closed : Option ℕ
  pub kept : List Set
  pub windows : ℕ
  pub emitted : ℕ

-- before any frame
abbrev pub begun : List Entry → Standing
begun entries = record { lanes = intakes_of 0 entries; closed = None; kept = []; windows = 0; emitted = 0 }

-- the answers of the window that the lanes have ended
abbrev pub answered : List TypedQuery → Standing → Answers
answered queries s = answers_of queries (kept_for s.closed s.kept (window_of s.lanes)) s.lanes

-- A window is closed: its block is added, all lanes are empty, and its prefixes are kept.
abbrev pub close : List TypedQuery → Standing → Outcome Standing
close queries s = record {
  text = block_text queries (answered queries s) true;
  end = Ok (record {
    lanes = map emptied s.lanes;
    closed = Some (window_of s.lanes);
    kept = gathered queries (answered queries s).parts s.lanes;
    windows = s.windows + 1;
    emitted = s.emitted + total s.lanes;
  });
}

-- a window is closed as soon as all lanes have ended it
abbrev pub close_ended : List TypedQuery → Standing → Outcome Standing
close_ended queries s = if is_none (first_open s.lanes) then close queries s else silent (Ok s)

-- a frame that begins at this byte is taken, or it is the first fault
abbrev pub taken_unless : ℕ → Option TakeFault → Outcome Standing → Outcome Standing
taken_unless at None taken = taken
taken_unless at (Some fault) taken = refused_at (kind_of fault) at

abbrev pub take_frame : List TypedQuery → ℕ → Frame → Standing → Outcome Standing
take_frame queries at frame s = taken_unless at (take_fault queries s.lanes s.closed frame)
    (close_ended queries (record s { lanes = after_frame s.lanes frame }))

-- frames one after another, each in its version, the first of which begins at this byte
abbrev pub take_frames : List TypedQuery → ℕ → List Written → Standing → Outcome Standing
take_frames queries at [] s = silent (Ok s)
take_frames queries at (w ∷ later) s = followed (take_frame queries at w.frame s) (λ next. take_frames queries (at + length (bytes_in w)) later next)

-- ---- after the frames

-- the reports, of this many bytes, end after a frame: each window that was begun must have been closed
abbrev pub ended : ℕ → Standing → Outcome (Unit {0})
ended size s = if list_any has_started s.lanes then refused_at kinds.Unfinished size else record { text = total_line s.windows (Some s.emitted); end = Ok tt }

-- What stands after the last frame, from this byte on, in a file of this many bytes. One with more than 2^30 is too large, unless a
-- byte of the first 2^30 is bad.
abbrev pub end_at : ℕ → ℕ → Decoded → Standing → Outcome (Unit {0})
end_at at size (decoded.Bad n) s = refused_at kinds.Bad (at + n)
end_at at size left s =
    if nat_lt most_text size then silent (Err (Refused faults.TooLarge)) else (if at == size then ended size s else refused_at kinds.Cut at)
