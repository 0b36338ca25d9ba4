-- to be believed
-- What `job` does.
use Rattle.std.specs.Prelude.{ℕ, ◌+◌, List, [], ◌∷◌, length, codes}
use Rattle.std.specs.FinMap.{from_entries}
use Rattle.sn_command_capture.specs.Capture.{Answered}
use Rattle.sn_command_search.specs.Certificates.{SearchedIn}
use Rattle.sn_cost.specs.Entries.{trained}
use Rattle.sn_gen.specs.Generated.{capture_bytes}
use Rattle.sn_gen.specs.Job.{job_queries, job_switch}
use Rattle.sn_io.specs.Counts.{ByName}
use Rattle.sn_command_job.specs.Summary.{summary_wording}
use Rattle.sn_command_texts.specs.Queries.{QueriesIn}
use Rattle.sn_command_texts.specs.Texts.{SwitchIn}
use Rattle.sn_command_run.specs.Planned.{Telling}
use Rattle.sn_command_run.specs.Run.{planned, window_ns}
use Rattle.sn_command.specs.Outcomes.{Stage}
use Rattle.sn_command.specs.Stages.{Judges, Text, Then}
use Rattle.sn_command_training.specs.Training.{TrainingIn}

-- The files of a job: its switch and its queries, the capture of its number to train on, and that of the next number to be
-- answered.
abbrev pub job_entries : ℕ → List (List ℕ × List ℕ)
job_entries number =
    (codes "switch", job_switch)
    ∷ (codes "queries", job_queries)
    ∷ (codes "training", capture_bytes number)
    ∷ (codes "capture", capture_bytes (number + 1))
    ∷ []

abbrev pub job_files : ℕ → ByName (List ℕ)
job_files number = from_entries (job_entries number)

-- Over these files a job does what `live` does with 100000 nodes, but that the summary is all that it writes: the queries are read, then the
-- switch, then the training capture; the plan that costs least on it is searched for; and then the other capture is read and answered along
-- that plan, as a machine reports the answers.
abbrev pub Summed : Telling → ℕ → Stage (Unit {0})
Summed reported number =
    Then (Text (codes "queries") QueriesIn) (λ read.
    Then (Text (codes "switch") SwitchIn) (λ limits.
    Then (Text (codes "training") (TrainingIn (window_ns read))) (λ training.
    Then (Judges (SearchedIn limits read.queries (trained training.numbers training.tuples) 100000)) (λ found.
    Answered (summary_wording reported number found.cost (length found.tree) (planned read limits found.plan)) (window_ns read) (codes "capture")))))

-- a stage over these files, whatever files there are
abbrev pub Over : {A : Type 0} → ByName (List ℕ) → Stage A → Stage A
Over made stage files outcome = stage made outcome

-- `job NUMBER`
abbrev pub Job : Telling → ℕ → Stage (Unit {0})
Job reported number = Over (job_files number) (Summed reported number)
