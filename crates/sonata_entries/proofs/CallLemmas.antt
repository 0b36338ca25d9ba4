-- Work over the files of a call.
use Rattle.std.proofs.Common.{◌≡◌, ℕ, ◌≤◌, List, [], ◌∷◌, Result, subst, arith}
use Rattle.std.proofs.Math.Bridge.{le_prop}
use Rattle.std.proofs.Math.Logic.{∥∥₁_elim}
use Rattle.sn_command.specs.declared.refusal.Refusal.{Refusal}
use Rattle.sn_command.specs.Runs.{Runs}
use Rattle.sn_command.specs.Stages.{Text}
use Rattle.sn_command.specs.Worlds.{World}
use Rattle.sn_command_training.specs.Training.{TrainingIn}
use Rattle.sn_cost_training.specs.Trained.{Training}
use Rattle.sn_types.specs.declared.typed_query.TypedQuery.{TypedQuery}
use Rattle.sn_types.specs.Typed.{IsTyped}

-- a window has some length
pub window_some : (window : ℕ) (queries : List TypedQuery) → ∥ IsTyped window queries ∥₁ → 1 ≤ window
window_some window queries t = ∥∥₁_elim t le_prop (λ t. let some = t.1.limits.window.from_least in let same = t.1.same_window in omega arith)

-- the length of a window may be said otherwise
pub in_windows : (name : List ℕ) {window other : ℕ} {before now : World} {answer : Result Training Refusal} → window ≡ other → Runs (name ∷ []) (Text name (TrainingIn window)) before answer now → Runs (name ∷ []) (Text name (TrainingIn other)) before answer now
in_windows name {before = before} {now} {answer} e r = subst (λ (w : ℕ). Runs (name ∷ []) (Text name (TrainingIn w)) before answer now) e r
