-- to be believed
-- What `finish` does.
use Rattle.std.specs.Prelude.{ℕ, List}
use Rattle.sn_command_finish.specs.Reported.{ReportedIn}
use Rattle.sn_command_texts.specs.Fitting.{Shaping}
use Rattle.sn_command_texts.specs.Queries.{QueriesIn}
use Rattle.sn_command_texts.specs.Texts.{PlanIn}
use Rattle.sn_command.specs.Outcomes.{Stage}
use Rattle.sn_command.specs.Stages.{Text, Then}

-- `finish QUERIES PLAN REPORTS`: the queries and the plan are read, the plan must have the shape of the queries, and then the
-- reports are answered while they are read.
abbrev pub Finish : List ℕ → List ℕ → List ℕ → Stage (Unit {0})
Finish queries plan reports =
    Then (Text queries QueriesIn) (λ read.
    Then (Text plan PlanIn) (λ chosen.
    Then (Shaping read.queries chosen) (λ _.
    ReportedIn read.queries chosen.entries reports)))
