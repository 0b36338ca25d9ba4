-- The stages of `emit` have one outcome each.
use Rattle.std.proofs.Common.{ℕ, List}
use Rattle.sn_command_capture.proofs.AnsweredLemmas.{one_answered}
use Rattle.sn_command_texts.proofs.Verdicts.{one_plan, one_queries, one_switch}
use Rattle.sn_command_texts.specs.Queries.{QueriesIn}
use Rattle.sn_command_texts.specs.Texts.{PlanIn, SwitchIn}
use Rattle.sn_command_run.specs.Run.{planned, window_ns}
use Rattle.sn_command.specs.Outcomes.{HasOne}
use Rattle.sn_command.proofs.OneLemmas.{one_does, one_text, one_then}
use Rattle.sn_command_emit.specs.Emit.{Emit}
use Rattle.sn_command_emit.specs.Sent.{frames_wording}

pub one_emit : (switch queries plan capture : List ℕ) → HasOne (Emit switch queries plan capture)
one_emit switch queries plan capture =
    one_then (one_text queries QueriesIn one_queries) (λ read. one_then (one_text switch SwitchIn one_switch) (λ limits. one_then (one_text plan PlanIn one_plan) (λ entries. one_then (one_does _) (λ _. one_answered (frames_wording (planned read limits entries)) (window_ns read) capture))))
