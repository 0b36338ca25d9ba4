-- to be believed
-- What `many` does.
use Rattle.std.specs.Prelude.{ℕ, List}
use Rattle.sn_command.specs.Outcomes.{Stage}
use Rattle.sn_command.specs.Stages.{Text, Then}
use Rattle.sn_command_captures.specs.Answered.{Answered}
use Rattle.sn_command_captures.specs.Captures.{Captures}
use Rattle.sn_command_captures.specs.Counted.{Counted}
use Rattle.sn_command_many.specs.Together.{many_wording}
use Rattle.sn_command_run.specs.Planned.{Planned}
use Rattle.sn_command_run.specs.Run.{planned, window_ns}
use Rattle.sn_command_texts.specs.Fitting.{Fitting}
use Rattle.sn_command_texts.specs.Queries.{QueriesIn}
use Rattle.sn_command_texts.specs.Texts.{PlanIn, SwitchIn}

-- captures are read, counted, and answered along a plan, in windows of this many nanoseconds
abbrev pub AlongPlan : Planned → ℕ → List (List ℕ) → Stage (Unit {0})
AlongPlan p window captures =
    Then (Captures captures) (λ found.
    Then (Counted window found) (λ shares.
    Answered (many_wording p) shares))

-- `many SWITCH QUERIES PLAN CAPTURE CAPTURE { CAPTURE }`: the queries are read, then the switch, then the plan, which is tested, and then
-- each capture whole. Each is what one of several switches saw, and all of them run the plan. Nothing is written before all
-- captures were read and counted.
abbrev pub Several : List ℕ → List ℕ → List ℕ → List (List ℕ) → Stage (Unit {0})
Several switch queries plan captures =
    Then (Text queries QueriesIn) (λ read.
    Then (Text switch SwitchIn) (λ limits.
    Then (Text plan PlanIn) (λ entries.
    Then (Fitting read.queries limits entries) (λ _.
    AlongPlan (planned read limits entries) (window_ns read) captures))))
