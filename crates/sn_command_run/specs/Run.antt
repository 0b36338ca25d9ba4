-- to be believed
-- What `run` does.
use Rattle.std.specs.Prelude.{ℕ, ◌*◌, List, Bool}
use Rattle.sn_command_capture.specs.Capture.{Answered}
use Rattle.sn_plan_grammar.specs.declared.plan.Plan.{Plan}
use Rattle.sn_command_texts.specs.Fitting.{Fitting}
use Rattle.sn_command_texts.specs.Queries.{QueriesIn}
use Rattle.sn_command_texts.specs.Texts.{PlanIn, SwitchIn}
use Rattle.sn_types_read.specs.Texts.{Queries}
use Rattle.sn_command.specs.Outcomes.{Stage}
use Rattle.sn_command.specs.Stages.{Text, Then}
use Rattle.sn_switch.specs.declared.switch.Switch.{Switch}
use Rattle.sn_command_run.specs.declared.form.Form.{Form}
use Rattle.sn_command_run.specs.declared.form.Form.TheVariants as forms
use Rattle.sn_command_run.specs.Planned.{Planned, Telling, form_of, wording_in}
use Rattle.sn_emit.specs.Plans.{tables_of}

-- a plan of the queries that were read, on the switch that was read
abbrev pub planned : Queries → Switch → Plan → Planned
planned read limits plan = record { queries = read.queries; tables = tables_of limits; entries = plan.entries }

-- a window in nanoseconds
abbrev pub window_ns : Queries → ℕ
window_ns read = read.window_us * 1000

-- the capture is answered along the plan, in either form, or in blocks; of the answers of each window this is reported
abbrev pub AlongIn : Form → Telling → List ℕ → Queries → Switch → Plan → Stage (Unit {0})
AlongIn form reported capture read limits plan = Answered (wording_in form reported (planned read limits plan)) (window_ns read) capture

abbrev pub AlongPlan : Telling → List ℕ → Queries → Switch → Plan → Stage (Unit {0})
AlongPlan reported capture read limits plan = AlongIn forms.Blocks reported capture read limits plan

-- `run SWITCH QUERIES PLAN CAPTURE`: the queries are read, then the switch, then the plan, which is tested, and then the capture
-- is read and answered along the plan. With `--csv` the answers are comma-separated values. The answers are given as a machine reports them.
abbrev pub Run : Telling → Bool → List ℕ → List ℕ → List ℕ → List ℕ → Stage (Unit {0})
Run reported csv switch queries plan capture =
    Then (Text queries QueriesIn) (λ read.
    Then (Text switch SwitchIn) (λ limits.
    Then (Text plan PlanIn) (λ entries.
    Then (Fitting read.queries limits entries) (λ _.
    AlongIn (form_of csv) reported capture read limits entries))))
