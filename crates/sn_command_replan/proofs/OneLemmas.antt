-- The stages of `replan` have one outcome.
use Rattle.std.proofs.Common.{ℕ, List}
use Rattle.sn_command.specs.Outcomes.{HasOne}
use Rattle.sn_command.proofs.OneLemmas.{one_then}
use Rattle.sn_command_capture.proofs.AnsweredLemmas.{one_answered}
use Rattle.sn_command_live.proofs.LiveLemmas.{one_certifies}
use Rattle.sn_command_run.specs.Run.{window_ns}
use Rattle.sn_command_replan.specs.Replan.{Replans, epoch_line, replan_wording}

pub one_replan_run : (switch queries train capture : List ℕ) (most nodes : ℕ) → HasOne (Replans switch queries train capture most nodes)
one_replan_run switch queries train capture most nodes =
    one_then (one_certifies (epoch_line 0) switch queries train nodes)
    (λ found. one_answered (replan_wording (record { queries = found.read.queries; limits = found.limits; nodes = nodes; most = most; first = found.certificate })) (window_ns found.read) capture)
