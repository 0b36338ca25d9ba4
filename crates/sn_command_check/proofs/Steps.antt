-- Stages of `check` over equal values.
use Rattle.std.proofs.Common.{◌≡◌, ℕ, List, [], ◌∷◌, Bool, Result, subst, sym}
use Rattle.sn_types_read.specs.Texts.{Queries}
use Rattle.sn_command.specs.Runs.{Runs, Works}
use Rattle.sn_command.specs.Stages.{Adds, Text}
use Rattle.sn_command.specs.Worlds.{World}
use Rattle.sn_command.specs.declared.refusal.Refusal.{Refusal}
use Rattle.sn_switch.specs.declared.switch.Switch.{Switch}
use Rattle.sn_command_training.specs.Training.{TrainingIn}
use Rattle.sn_cost_training.specs.Trained.{Training}
use Rattle.sn_plan_grammar.specs.declared.plan.Plan.{Plan}
use Rattle.sn_command_check.specs.Check.{After, PlanTree, yes_line}

pub of_window : {w v : ℕ} {name : List ℕ} {before now : World} {answer : Result Training Refusal} → w ≡ v → Works (name ∷ []) (Text name (TrainingIn w)) before answer now
    → Runs (name ∷ []) (Text name (TrainingIn v)) before answer now
of_window {name = name} {before} {now} {answer} e w = (subst (λ (n : ℕ). Works (name ∷ []) (Text name (TrainingIn n)) before answer now) e w).runs

pub of_text : (read : Queries) (limits : Switch) (training : Training) {t u : List ℕ} {before now : World} {answer : Result (Unit {0}) Refusal} → t ≡ u → Runs [] (PlanTree read limits training t) before answer now
    → Runs [] (PlanTree read limits training u) before answer now
of_text read limits training {before = before} {now} {answer} e r = subst (λ (x : List ℕ). Runs [] (PlanTree read limits training x) before answer now) e r

pub of_line : {paid cost n m : ℕ} {before now : World} {answer : Result (Unit {0}) Refusal} → paid ≡ cost → n ≡ m → Runs [] (Adds (yes_line paid n)) before answer now → Runs [] (Adds (yes_line cost m)) before answer now
of_line {paid} {n = n} {m} {before = before} {now} {answer} e f r =
    subst (λ (k : ℕ). Runs [] (Adds (yes_line k m)) before answer now) e (subst (λ (k : ℕ). Runs [] (Adds (yes_line paid k)) before answer now) f r)

-- what stands after a plan, where it is known whether prices do
pub of_after : (read : Queries) (limits : Switch) (training : Training) (text : List ℕ) (plan : Plan) (byte : ℕ) {has is : Bool} {before now : World} {answer : Result (Unit {0}) Refusal} → has ≡ is
    → Runs [] (After read limits training text plan byte is) before answer now → Runs [] (After read limits training text plan byte has) before answer now
of_after read limits training text plan byte {before = before} {now} {answer} e r = subst (λ (b : Bool). Runs [] (After read limits training text plan byte b) before answer now) (sym e) r
