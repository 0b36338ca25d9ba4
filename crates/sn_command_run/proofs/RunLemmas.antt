-- The stages of `run` have one outcome each.
use Rattle.std.proofs.Common.{ℕ, ◌≤◌, List, Bool, arith}
use Rattle.std.proofs.Math.Bridge.{le_prop}
use Rattle.std.proofs.Math.Logic.{∥∥₁_elim}
use Rattle.sn_command_capture.proofs.AnsweredLemmas.{one_answered}
use Rattle.sn_command_texts.proofs.Verdicts.{one_plan, one_queries, one_switch}
use Rattle.sn_command_texts.specs.Queries.{QueriesIn}
use Rattle.sn_command_texts.specs.Texts.{PlanIn, SwitchIn}
use Rattle.sn_command.specs.Outcomes.{HasOne}
use Rattle.sn_command.proofs.OneLemmas.{one_does, one_text, one_then}
use Rattle.sn_types.specs.declared.typed_query.TypedQuery.{TypedQuery}
use Rattle.sn_types.specs.Typed.{IsTyped}
use Rattle.sn_command_run.specs.Planned.{Telling, form_of, wording_in}
use Rattle.sn_command_run.specs.Run.{Run, planned, window_ns}

-- a window has some length
pub window_some : (window : ℕ) (queries : List TypedQuery) → ∥ IsTyped window queries ∥₁ → 1 ≤ window
window_some window queries t = ∥∥₁_elim t le_prop (λ t. let some = t.1.limits.window.from_least in let same = t.1.same_window in omega arith)

pub one_run : (reported : Telling) (csv : Bool) (switch queries plan capture : List ℕ) → HasOne (Run reported csv switch queries plan capture)
one_run reported csv switch queries plan capture =
    one_then (one_text queries QueriesIn one_queries) (λ read. one_then (one_text switch SwitchIn one_switch) (λ limits. one_then (one_text plan PlanIn one_plan) (λ entries. one_then (one_does _) (λ _. one_answered (wording_in (form_of csv) reported (planned read limits entries)) (window_ns read) capture))))
