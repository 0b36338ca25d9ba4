-- to be believed
-- What `gen` does.
use Rattle.std.specs.Prelude.{ℕ}
use Rattle.sn_gen.specs.Generated.{capture_bytes}
use Rattle.sn_command.specs.Outcomes.{Stage}
use Rattle.sn_command.specs.Stages.{Adds}

-- `gen NUMBER`: the capture of the number goes out.
abbrev pub Gen : ℕ → Stage (Unit {0})
Gen number = Adds (capture_bytes number)
