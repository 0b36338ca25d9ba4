-- to be believed
-- What `plain` does.
use Rattle.std.specs.Prelude.{ℕ, List}
use Rattle.sn_command_capture.specs.Capture.{Answered}
use Rattle.sn_command_texts.specs.Queries.{QueriesIn}
use Rattle.sn_command_run.specs.Run.{window_ns}
use Rattle.sn_command.specs.Outcomes.{Stage}
use Rattle.sn_command.specs.Stages.{Text, Then}
use Rattle.sn_top.specs.Answers.{plain_wording}

-- `plain QUERIES CAPTURE`: the queries are read, and then the capture is read and answered.
abbrev pub Plain : List ℕ → List ℕ → Stage (Unit {0})
Plain queries capture = Then (Text queries QueriesIn) (λ read. Answered (plain_wording read.queries) (window_ns read) capture)
