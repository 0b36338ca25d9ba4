-- to be believed
-- What `check` shows where it says yes.
use Rattle.std.specs.Prelude.{◌≡◌, ℕ, ◌≤◌, List, Ok, Some}
use Rattle.std.specs.FinMap.{get}
use Rattle.sn_cost.specs.Entries.{trained}
use Rattle.sn_plan_fit.specs.Fits.{Fits}
use Rattle.sn_io.specs.Counts.{ByName}
use Rattle.sn_cost_laws.specs.Sent.{cost_over}
use Rattle.sn_plan_grammar.specs.declared.plan.Entry.{Entry}
use Rattle.sn_plan_grammar.specs.declared.plan.Plan.{Plan}
use Rattle.sn_command_texts.specs.Queries.{QueriesIn}
use Rattle.sn_command_texts.specs.Texts.{PlanIn, SwitchIn}
use Rattle.sn_types_read.specs.Texts.{Queries}
use Rattle.sn_command_run.specs.Run.{window_ns}
use Rattle.sn_switch.specs.declared.switch.Switch.{Switch}
use Rattle.sn_command_training.specs.Training.{TrainingIn}
use Rattle.sn_cost_training.specs.Trained.{Training}
use Rattle.sn_command_check.specs.Check.{bounded_line, yes_line}

-- what a plan costs over the windows of a training capture: the items that it sends, and the switch's weight for each prefix that is
-- installed
abbrev pub training_cost : Queries → Switch → Training → List Entry → ℕ
training_cost read limits training entries = cost_over limits read.queries entries (trained training.numbers training.tuples)

-- What a line says of a plan among those that fit: that none of them costs less, or that none costs less than a number, which is at most what the plan
-- costs.
pub data SaysLeast (cost : List Entry → ℕ) (fits : List Entry → Type 0) (entries : List Entry) (text : List ℕ) : Type 0 where
  by_tree : (nodes : ℕ) → ((others : List Entry) → fits others → cost entries ≤ cost others) → text ≡ yes_line (cost entries) nodes → SaysLeast cost fits entries text
  by_prices : (least : ℕ) → ((others : List Entry) → fits others → least ≤ cost others) → text ≡ bounded_line (cost entries) least → SaysLeast cost fits entries text

-- What is so where `check` says yes in this text, whoever made the tree or the prices.
pub record ShowsLeast (switch queries train plantree : List ℕ) (files : ByName (List ℕ)) (text : List ℕ) : Type 0 where
  -- The files hold accepted queries, an accepted switch, a training capture, and a plan.
  pub query_text : List ℕ
  pub switch_text : List ℕ
  pub capture : List ℕ
  pub plan_text : List ℕ
  pub has_queries : get files queries ≡ Some query_text
  pub has_switch : get files switch ≡ Some switch_text
  pub has_capture : get files train ≡ Some capture
  pub has_plan : get files plantree ≡ Some plan_text
  pub read : Queries
  pub limits : Switch
  pub training : Training
  pub plan : Plan
  pub are_queries : QueriesIn query_text (Ok read)
  pub is_switch : SwitchIn switch_text (Ok limits)
  pub is_training : TrainingIn (window_ns read) capture (Ok training)
  pub is_plan : PlanIn plan_text (Ok plan)
  -- The plan fits every limit of the switch.
  pub fits : Fits read.queries limits plan.entries
  -- The line says what it costs over the training capture, and what no plan that fits costs less than.
  pub bounds : SaysLeast (training_cost read limits training) (Fits read.queries limits) plan.entries text
