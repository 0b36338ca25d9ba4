-- to be believed
-- What `detect` does.
use Rattle.std.specs.Prelude.{ℕ, ◌*◌, List}
use Rattle.sn_command_capture.specs.Capture.{Answered}
use Rattle.sn_command_texts.specs.Fitting.{Shaping}
use Rattle.sn_command_texts.specs.Queries.{QueriesIn}
use Rattle.sn_command_texts.specs.Texts.{PlanIn}
use Rattle.sn_command.specs.Outcomes.{Stage}
use Rattle.sn_command.specs.Stages.{Text, Then}
use Rattle.sn_command_detect.specs.Detected.{detect_wording}

-- `detect QUERIES PLAN CAPTURE`: the queries and the plan are read, the plan must have the shape of the queries, and then the
-- capture is read and each refined query is watched over its windows.
abbrev pub Detects : List ℕ → List ℕ → List ℕ → Stage (Unit {0})
Detects queries plan capture =
    Then (Text queries QueriesIn) (λ read.
    Then (Text plan PlanIn) (λ chosen.
    Then (Shaping read.queries chosen) (λ _.
    Answered (detect_wording read.queries chosen.entries) (read.window_us * 1000) capture)))
