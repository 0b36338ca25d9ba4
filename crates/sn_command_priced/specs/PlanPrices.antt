-- to be believed
-- What `plan --prices` does.
use Rattle.std.specs.Prelude.{◌≡◌, ℕ, ◌≤◌, List, [], ◌∷◌, Result, Ok, Some}
use Rattle.sn_command.specs.declared.refusal.Refusal.{Refusal}
use Rattle.sn_command.specs.Outcomes.{Stage, silent}
use Rattle.sn_command.specs.Runs.{WorksFrom}
use Rattle.sn_command.specs.Stages.{Adds, Gives, Text, Then}
use Rattle.sn_command.specs.Worlds.{World}
use Rattle.sn_command_live.specs.Live.{trained_windows}
use Rattle.sn_command_prices.specs.Made.{IsPricedPlan, priced_text}
use Rattle.sn_command_prices.specs.declared.make.PricedPlan.{PricedPlan}
use Rattle.sn_command_priced.specs.declared.asked.Asked.{Asked}
use Rattle.sn_command_run.specs.Run.{window_ns}
use Rattle.sn_command_texts.specs.Queries.{QueriesIn, queries_of}
use Rattle.sn_command_texts.specs.Texts.{SwitchIn}
use Rattle.sn_command_training.specs.Training.{TrainingIn}
use Rattle.sn_cost_laws.specs.Sent.{cost_over}
use Rattle.sn_cost_training.specs.Trained.{Training}
use Rattle.sn_io.specs.Counts.{ByName}
use Rattle.sn_plan_fit.specs.Fits.{Fits}
use Rattle.sn_plan_grammar.specs.declared.plan.Entry.{Entry}
use Rattle.sn_switch.specs.declared.switch.Switch.{Switch}
use Rattle.sn_types_read.specs.Texts.{Queries}

-- what a plan is asked for: the queries, the switch and the training capture
pub record Question : Type 0 where
  pub read : Queries
  pub limits : Switch
  pub training : Training

abbrev pub question_of : Asked → Question
question_of asked = record { read = queries_of asked.typed; limits = asked.limits; training = asked.training }

-- The queries are read, then the switch, and then the training capture.
abbrev pub Reads : List ℕ → List ℕ → List ℕ → Stage Question
Reads switch queries train =
    Then (Text queries QueriesIn) (λ read.
    Then (Text switch SwitchIn) (λ limits.
    Then (Text train (TrainingIn (window_ns read))) (λ training.
    Gives (Ok (record { read = read; limits = limits; training = training })))))

-- a way to choose a plan with prices for what is asked
abbrev pub Chooser : Type 0
Chooser = Question → PricedPlan

-- `plan SWITCH QUERIES TRAIN --prices`: the plan that is chosen is written, with its cost, its prices and what they show.
abbrev pub PlanPrices : Chooser → List ℕ → List ℕ → List ℕ → Stage (Unit {0})
PlanPrices choose switch queries train = Then (Reads switch queries train) (λ question. Adds (priced_text (choose question)))

-- What is chosen for what these files hold, where it is accepted, is right: the plan fits, it costs what is said over the training capture, and
-- its prices show the number that is said.
abbrev pub ChoosesRight : Chooser → List ℕ → List ℕ → List ℕ → ByName (List ℕ) → Type 0
ChoosesRight choose switch queries train files =
    (question : Question) → Reads switch queries train files (silent (Ok question))
    → IsPricedPlan question.limits question.read.queries (trained_windows question.training) (choose question)

-- The work of `plan --prices`: a plan is chosen right for what the files hold, and the run is that of the stages with that choice.
pub record PlansByPrices (switch queries train : List ℕ) (before : World) (answer : Result (Unit {0}) Refusal) (now : World) : Type 0 where
  pub choose : Chooser
  pub right : (files : ByName (List ℕ)) → before.files.reported ≡ Some files → ChoosesRight choose switch queries train files
  pub works : WorksFrom 2 (queries ∷ switch ∷ train ∷ []) (PlanPrices choose switch queries train) before answer now

-- What a plan with prices says of what was asked: the plan fits the switch, its cost is what it costs on the training capture, and no plan that fits
-- costs less than its number there, which isn't above that cost.
pub record BoundsCosts (question : Question) (p : PricedPlan) : Type 0 where
  pub fits : Fits question.read.queries question.limits p.plan.entries
  pub cost : p.shown.cost ≡ cost_over question.limits question.read.queries p.plan.entries (trained_windows question.training)
  pub below : p.shown.least ≤ p.shown.cost
  pub least : (entries : List Entry) → Fits question.read.queries question.limits entries
      → p.shown.least ≤ cost_over question.limits question.read.queries entries (trained_windows question.training)
