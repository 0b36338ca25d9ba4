-- The stages of `detect` have one outcome each.
use Rattle.std.proofs.Common.{ℕ, ◌*◌, ◌≤◌, List, arith}
use Rattle.std.proofs.Math.Bridge.{le_prop}
use Rattle.std.proofs.Math.Logic.{∥∥₁_elim}
use Rattle.sn_command_capture.proofs.AnsweredLemmas.{one_answered}
use Rattle.sn_command_texts.proofs.Verdicts.{one_plan, one_queries}
use Rattle.sn_command_texts.specs.Queries.{QueriesIn}
use Rattle.sn_command_texts.specs.Texts.{PlanIn}
use Rattle.sn_command.specs.Outcomes.{HasOne}
use Rattle.sn_command.proofs.OneLemmas.{one_does, one_text, one_then}
use Rattle.sn_command_detect.specs.Detected.{detect_wording}
use Rattle.sn_command_detect.specs.Detects.{Detects}
use Rattle.sn_types.specs.declared.typed_query.TypedQuery.{TypedQuery}
use Rattle.sn_types.specs.Typed.{IsTyped}

-- a window has some length
pub window_some : (window : ℕ) (queries : List TypedQuery) → ∥ IsTyped window queries ∥₁ → 1 ≤ window
window_some window queries t = ∥∥₁_elim t le_prop (λ t. let some = t.1.limits.window.from_least in let same = t.1.same_window in omega arith)

pub one_detect : (queries plan capture : List ℕ) → HasOne (Detects queries plan capture)
one_detect queries plan capture =
    one_then (one_text queries QueriesIn one_queries) (λ read.
    one_then (one_text plan PlanIn one_plan) (λ chosen.
    one_then (one_does _) (λ _.
    one_answered (detect_wording read.queries chosen.entries) (read.window_us * 1000) capture)))
