-- to be believed
-- What the top call is called with and leaves, and the work of each command.
use Rattle.std.specs.Prelude.{◌≡◌, ℕ, List, [], ◌∷◌, Bool, true, false, drop, Option, Some, Result, Err}
use Rattle.sn_io.specs.Counts.{ByName}
use Rattle.sn_io.specs.declared.inputs.Inputs.{Ghosts as InputsOf}
use Rattle.sn_io.specs.declared.sink.Sink.{Ghosts as SinkOf}
use Rattle.sn_cli.specs.declared.command.Command.{Command}
use Rattle.sn_cli.specs.declared.command.Command.TheVariants as commands
use Rattle.sn_cli.specs.Words.{word_at}
use Rattle.sn_command.specs.declared.refusal.Refusal.{Refusal}
use Rattle.sn_command.specs.declared.refusal.Refusal.TheVariants.{Usage}
use Rattle.sn_command.specs.Desks.{files_of, sunk}
use Rattle.sn_command.specs.Ends.{Around, IsCommandRun}
use Rattle.sn_command.specs.Runs.{WorksFrom}
use Rattle.sn_command.specs.Worlds.{World}
use Rattle.sn_command_check.specs.Check.{Check}
use Rattle.sn_command_detect.specs.Detects.{Detects}
use Rattle.sn_command_emit.specs.Emit.{Emit}
use Rattle.sn_command_finish.specs.Finish.{Finish}
use Rattle.sn_command_job.specs.Gen.{Gen}
use Rattle.sn_command_job.specs.Job.{Job}
use Rattle.sn_command_live.specs.Live.{Live, Plan, TracedLive}
use Rattle.sn_command_many.specs.Several.{Several}
use Rattle.sn_command_priced.specs.PlanPrices.{Chooser, ChoosesRight, PlanPrices, PlansByPrices}
use Rattle.sn_command_replan.specs.Replan.{Replans}
use Rattle.sn_command_run.specs.Planned.{Telling}
use Rattle.sn_command_run.specs.Run.{Run}
use Rattle.sn_top.specs.Plain.{Plain}

-- refused as a usage, with nothing read or written
abbrev pub IsUsage : World → Result (Unit {0}) Refusal → World → Type 0
IsUsage before answer now = (answer ≡ Err Usage) × (now ≡ before)

-- `live`, with a trace or without one; without one a schedule doesn't matter
abbrev pub IsLiveWork : Telling → ℕ → ℕ → Bool → List (List ℕ) → World → Result (Unit {0}) Refusal → World → Type 0
IsLiveWork reported nodes schedule true words before answer now =
    WorksFrom 2 (word_at words 2 ∷ word_at words 1 ∷ word_at words 3 ∷ word_at words 4 ∷ [])
    (TracedLive schedule reported (word_at words 1) (word_at words 2) (word_at words 3) (word_at words 4) nodes) before answer now
IsLiveWork reported nodes schedule false words before answer now =
    WorksFrom 2 (word_at words 2 ∷ word_at words 1 ∷ word_at words 3 ∷ word_at words 4 ∷ [])
    (Live reported (word_at words 1) (word_at words 2) (word_at words 3) (word_at words 4) nodes) before answer now

-- the work of a command: its stages over the files that its words name; of answers this is reported
abbrev pub IsWork : Telling → Command → List (List ℕ) → World → Result (Unit {0}) Refusal → World → Type 0
IsWork reported commands.Plain words before answer now =
    WorksFrom 2 (word_at words 1 ∷ word_at words 2 ∷ []) (Plain (word_at words 1) (word_at words 2)) before answer now
IsWork reported (commands.Plan nodes) words before answer now =
    WorksFrom 2 (word_at words 2 ∷ word_at words 1 ∷ word_at words 3 ∷ []) (Plan (word_at words 1) (word_at words 2) (word_at words 3) nodes) before answer now
IsWork reported (commands.PlanPrices nodes) words before answer now = PlansByPrices (word_at words 1) (word_at words 2) (word_at words 3) before answer now
IsWork reported (commands.Run csv) words before answer now =
    WorksFrom 2 (word_at words 2 ∷ word_at words 1 ∷ word_at words 3 ∷ word_at words 4 ∷ [])
    (Run reported csv (word_at words 1) (word_at words 2) (word_at words 3) (word_at words 4)) before answer now
IsWork reported commands.Emit words before answer now =
    WorksFrom 2 (word_at words 2 ∷ word_at words 1 ∷ word_at words 3 ∷ word_at words 4 ∷ [])
    (Emit (word_at words 1) (word_at words 2) (word_at words 3) (word_at words 4)) before answer now
IsWork reported commands.Finish words before answer now =
    WorksFrom 2 (word_at words 1 ∷ word_at words 2 ∷ word_at words 3 ∷ []) (Finish (word_at words 1) (word_at words 2) (word_at words 3)) before answer now
IsWork reported commands.Check words before answer now =
    WorksFrom 2 (word_at words 2 ∷ word_at words 1 ∷ word_at words 3 ∷ word_at words 4 ∷ [])
    (Check (word_at words 1) (word_at words 2) (word_at words 3) (word_at words 4)) before answer now
IsWork reported (commands.Live nodes schedule trace) words before answer now = IsLiveWork reported nodes schedule trace words before answer now
IsWork reported commands.Detect words before answer now =
    WorksFrom 2 (word_at words 1 ∷ word_at words 2 ∷ word_at words 3 ∷ []) (Detects (word_at words 1) (word_at words 2) (word_at words 3)) before answer now
IsWork reported (commands.Many captures) words before answer now =
    WorksFrom 2 (word_at words 2 ∷ word_at words 1 ∷ word_at words 3 ∷ drop 4 words)
    (Several (word_at words 1) (word_at words 2) (word_at words 3) (drop 4 words)) before answer now
IsWork reported (commands.Replan early most) words before answer now =
    WorksFrom 2 (word_at words 2 ∷ word_at words 1 ∷ word_at words 3 ∷ word_at words 4 ∷ [])
    (Replans (word_at words 1) (word_at words 2) (word_at words 3) (word_at words 4) early most) before answer now
IsWork reported (commands.Gen number) words before answer now = WorksFrom 2 [] (Gen number) before answer now
IsWork reported (commands.Job number) words before answer now = WorksFrom 2 [] (Job reported number) before answer now

-- A call with the words of `plan --prices`: a plan is chosen right for what the files hold, and the run is that of the stages with that choice.
pub record IsPricedRun (switch queries train : List ℕ) (before : Around) (status : ℕ) (now : Around) : Type 0 where
  pub choose : Chooser
  pub right : (files : ByName (List ℕ)) → before.files.reported ≡ Some files → ChoosesRight choose switch queries train files
  pub run : IsCommandRun (queries ∷ switch ∷ train ∷ []) (PlanPrices choose switch queries train) before status now

abbrev pub around : {I O E : Type 0} → InputsOf I → SinkOf O → SinkOf E → I → O → E → Around
around inputs out_sink err_sink files out err = record { files = files_of inputs files; out = sunk out_sink out; err = sunk err_sink err }
