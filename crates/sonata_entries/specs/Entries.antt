-- to be believed
-- What the program does.
use Rattle.std.specs.Prelude.{◌≡◌, ℕ, ◌*◌, List, Result, Err}
use Rattle.sn_io.specs.declared.inputs.Inputs.{Ghosts as InputsOf}
use Rattle.sn_io.specs.declared.sink.Sink.{Ghosts as SinkOf}
use Rattle.sn_command.specs.declared.refusal.Refusal.{Refusal}
use Rattle.sn_command.specs.declared.refusal.Refusal.TheVariants.{Usage}
use Rattle.sn_command.specs.Desks.{files_of, sunk}
use Rattle.sn_command.specs.Ends.{Around}
use Rattle.sn_command.specs.Outcomes.{Stage}
use Rattle.sn_command.specs.Stages.{Adds, Text, Then}
use Rattle.sn_command.specs.Worlds.{World}
use Rattle.sn_command_texts.specs.Queries.{QueriesIn}
use Rattle.sn_command_texts.specs.Texts.{SwitchIn}
use Rattle.sn_command_training.specs.Training.{TrainingIn}
use Rattle.sn_cost.specs.Entries.{trained}
use Rattle.sonata_entries.specs.Table.{counted, table_text}

-- The queries are read, then the switch, then the training capture, and then the text of their cost table is written.
abbrev pub Entries : List ℕ → List ℕ → List ℕ → Stage (Unit {0})
Entries switch queries train =
    Then (Text queries QueriesIn) (λ read.
    Then (Text switch SwitchIn) (λ limits.
    Then (Text train (TrainingIn (read.window_us * 1000))) (λ training.
    Adds (table_text limits (counted limits read.queries (trained training.numbers training.tuples)) read.queries))))

-- refused as a usage, with nothing read or written
abbrev pub IsUsage : World → Result (Unit {0}) Refusal → World → Type 0
IsUsage before answer now = (answer ≡ Err Usage) × (now ≡ before)

-- the files, the output and the error output of a call
abbrev pub around : {I O E : Type 0} → InputsOf I → SinkOf O → SinkOf E → I → O → E → Around
around inputs out_sink err_sink files out err = record { files = files_of inputs files; out = sunk out_sink out; err = sunk err_sink err }
