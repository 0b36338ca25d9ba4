-- to be believed
-- The stage of reports.
use Rattle.std.specs.Prelude.{ℕ, ◌+◌, List, length, Result, Ok, Err}
use Rattle.sn_command_finish.specs.Taken.{Standing, begun, end_at, followed, take_frames}
use Rattle.sn_report.specs.Framed.{AreReports, Framed, bytes_of}
use Rattle.sn_report_reader.specs.Within.{within}
use Rattle.sn_plan_grammar.specs.declared.plan.Entry.{Entry}
use Rattle.sn_command.specs.declared.fault.Fault.{Fault}
use Rattle.sn_command.specs.Outcomes.{Outcome, Stage}
use Rattle.sn_command.specs.Stages.{Does, Judges, Then}
use Rattle.sn_command_capture.specs.Capture.{Whole}
use Rattle.sn_types.specs.declared.typed_query.TypedQuery.{TypedQuery}

-- the frames of reports, and what stands after them: this refuses nothing
abbrev pub FramedIn : List ℕ → Result Framed Fault → Type 0
FramedIn bytes (Ok framed) = AreReports bytes framed.frames framed.left
FramedIn bytes (Err fault) = ⊥

-- Frames, the first of which begins at this byte, of a file of this many bytes: the block of each window stands where its
-- last lane ends it, up to the first fault; after the last frame stands the total.
abbrev pub reported_from : List TypedQuery → ℕ → ℕ → Framed → Standing → Outcome (Unit {0})
reported_from queries at size framed s =
    followed (take_frames queries at framed.frames s) (λ last. end_at (at + length (bytes_of framed.frames)) size framed.left last)

-- the reports in a file, after what came so far: frames are those that stand whole in its first 2^30 bytes
abbrev pub Answered : List TypedQuery → Standing → List ℕ → Stage (Unit {0})
Answered queries s file = Then (Judges (FramedIn (within file))) (λ framed. Does (reported_from queries 0 (length file) framed s))

-- the reports of a plan
abbrev pub Reported : List TypedQuery → List Entry → List ℕ → Stage (Unit {0})
Reported queries entries file = Answered queries (begun entries) file

-- the same of the file of this name: it refuses where the name isn't known
abbrev pub ReportedIn : List TypedQuery → List Entry → List ℕ → Stage (Unit {0})
ReportedIn queries entries name = Then (Whole name) (λ file. Reported queries entries file)
