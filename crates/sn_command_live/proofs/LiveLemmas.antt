-- The stages of `plan` and `live` have one outcome each.
use Rattle.std.proofs.Common.{ℕ, List, []}
use Rattle.sn_command_capture.proofs.AnsweredLemmas.{one_answered}
use Rattle.sn_command_search.proofs.Verdicts.{one_search}
use Rattle.sn_command_texts.proofs.Verdicts.{one_queries, one_switch}
use Rattle.sn_command_texts.specs.Queries.{QueriesIn}
use Rattle.sn_command_texts.specs.Texts.{SwitchIn}
use Rattle.sn_command_run.specs.Planned.{Telling, reported_wording}
use Rattle.sn_command_run.specs.Run.{planned, window_ns}
use Rattle.sn_command.specs.Outcomes.{HasOne}
use Rattle.sn_command.proofs.OneLemmas.{one_does, one_judges, one_text, one_then}
use Rattle.sn_command_run.specs.TraceWording.{traced_wording}
use Rattle.sn_command_training.specs.Training.{TrainingIn}
use Rattle.sn_command_training.proofs.TrainingLemmas.{one_training}
use Rattle.sn_command_live.specs.Live.{CertifiesAfter, Live, Plan, TracedLive, trained_windows}

pub one_certifies : (before switch queries train : List ℕ) (nodes : ℕ) → HasOne (CertifiesAfter before switch queries train nodes)
one_certifies before switch queries train nodes =
    one_then (one_text queries QueriesIn one_queries) (λ read.
    one_then (one_text switch SwitchIn one_switch) (λ limits.
    one_then (one_text train (TrainingIn (window_ns read)) (one_training (window_ns read))) (λ training.
    one_then (one_judges (one_search limits read.queries (trained_windows training) nodes)) (λ certificate. one_does _))))

pub one_plan_run : (switch queries train : List ℕ) (nodes : ℕ) → HasOne (Plan switch queries train nodes)
one_plan_run switch queries train nodes = one_then (one_certifies [] switch queries train nodes) (λ found. one_does _)

pub one_live_run : (reported : Telling) (switch queries train capture : List ℕ) (nodes : ℕ) → HasOne (Live reported switch queries train capture nodes)
one_live_run reported switch queries train capture nodes =
    one_then (one_certifies [] switch queries train nodes) (λ found. one_answered (reported_wording reported (planned found.read found.limits found.certificate.plan)) (window_ns found.read) capture)

pub one_traced_run : (schedule : ℕ) (reported : Telling) (switch queries train capture : List ℕ) (nodes : ℕ) → HasOne (TracedLive schedule reported switch queries train capture nodes)
one_traced_run schedule reported switch queries train capture nodes =
    one_then (one_certifies [] switch queries train nodes) (λ found. one_answered (traced_wording schedule (planned found.read found.limits found.certificate.plan) reported) (window_ns found.read) capture)
