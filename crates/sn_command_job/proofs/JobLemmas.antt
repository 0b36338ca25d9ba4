-- The stages of `job` have one outcome each.
use Rattle.std.proofs.Common.{ℕ, length}
use Rattle.std.specs.Prelude.{codes}
use Rattle.sn_command_capture.proofs.AnsweredLemmas.{one_answered}
use Rattle.sn_command_search.proofs.Verdicts.{one_search}
use Rattle.sn_cost.specs.Entries.{trained}
use Rattle.sn_command_job.specs.Job.{Job, Summed, job_files}
use Rattle.sn_command_job.specs.Summary.{summary_wording}
use Rattle.sn_command_texts.proofs.Verdicts.{one_queries, one_switch}
use Rattle.sn_command_texts.specs.Queries.{QueriesIn}
use Rattle.sn_command_texts.specs.Texts.{SwitchIn}
use Rattle.sn_command_run.specs.Planned.{Telling}
use Rattle.sn_command_run.specs.Run.{planned, window_ns}
use Rattle.sn_command.specs.Outcomes.{HasOne}
use Rattle.sn_command.proofs.OneLemmas.{one_judges, one_text, one_then}
use Rattle.sn_command_training.proofs.TrainingLemmas.{one_training}
use Rattle.sn_command_training.specs.Training.{TrainingIn}

one_summed : (reported : Telling) (number : ℕ) → HasOne (Summed reported number)
one_summed reported number =
    one_then (one_text (codes "queries") QueriesIn one_queries) (λ read. one_then (one_text (codes "switch") SwitchIn one_switch) (λ limits.
    one_then (one_text (codes "training") (TrainingIn (window_ns read)) (one_training (window_ns read))) (λ training.
    one_then (one_judges (one_search limits read.queries (trained training.numbers training.tuples) 100000)) (λ found.
    one_answered (summary_wording reported number found.cost (length found.tree) (planned read limits found.plan)) (window_ns read) (codes "capture")))))

pub one_job : (reported : Telling) (number : ℕ) → HasOne (Job reported number)
one_job reported number =
    let one = one_summed reported number in
    record {
      some = λ files. let has = one.some (job_files number) in record { outcome = has.outcome; is = has.is };
      once = λ files first second a b. one.once (job_files number) first second a b;
    }
