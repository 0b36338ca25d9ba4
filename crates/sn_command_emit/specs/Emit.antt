-- to be believed
-- What `emit` does.
use Rattle.std.specs.Prelude.{ℕ, List}
use Rattle.sn_command_capture.specs.Capture.{Answered}
use Rattle.sn_plan_grammar.specs.declared.plan.Plan.{Plan}
use Rattle.sn_command_texts.specs.Fitting.{Fitting}
use Rattle.sn_command_texts.specs.Queries.{QueriesIn}
use Rattle.sn_command_texts.specs.Texts.{PlanIn, SwitchIn}
use Rattle.sn_types_read.specs.Texts.{Queries}
use Rattle.sn_command_run.specs.Run.{planned, window_ns}
use Rattle.sn_command.specs.Outcomes.{Stage}
use Rattle.sn_command.specs.Stages.{Text, Then}
use Rattle.sn_switch.specs.declared.switch.Switch.{Switch}
use Rattle.sn_command_emit.specs.Sent.{frames_wording}

-- the frames of the capture's windows along the plan
abbrev pub FramesOf : List ℕ → Queries → Switch → Plan → Stage (Unit {0})
FramesOf capture read limits plan = Answered (frames_wording (planned read limits plan)) (window_ns read) capture

-- `emit SWITCH QUERIES PLAN CAPTURE`: the queries are read, then the switch, then the plan, which is tested, and then the capture
-- is read, and the frames of each window are written.
abbrev pub Emit : List ℕ → List ℕ → List ℕ → List ℕ → Stage (Unit {0})
Emit switch queries plan capture =
    Then (Text queries QueriesIn) (λ read.
    Then (Text switch SwitchIn) (λ limits.
    Then (Text plan PlanIn) (λ entries.
    Then (Fitting read.queries limits entries) (λ _.
    FramesOf capture read limits entries))))
