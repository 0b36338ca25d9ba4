-- serves proofs
-- What is kept of a job between two windows, and while a window is open.
use Rattle.std.specs.Prelude.{◌≡◌, ℕ, List}
use Rattle.std.specs.List.{flat_map}
use Rattle.sn_windows.specs.Rising.{Window}
use Rattle.sn_core_drive.specs.declared.machine.Machine.{Ghosts as MachineOf}
use Rattle.sn_command_job.specs.declared.summing.Summing.{Summing}
use Rattle.sn_command_job.specs.Summary.{shown}
use Rattle.sn_command_run.specs.Along.{IsAtHand, plan_of, reported_of}
use Rattle.sn_command_run.specs.Along as run
use Rattle.sn_command_run.specs.Planned.{Planned, Telling}

-- what is shown of the windows that were closed
abbrev pub shown_of : Telling → Planned → List Window → List ℕ
shown_of reported p closed = flat_map (shown p.queries) (reported_of reported p closed)

-- these windows were closed, and no other comes
pub record IsIdle {M : Type 0} (machine : MachineOf M) (a : Summing M) (closed : List Window) : Type 0 where
  pub along : run.IsIdle machine a.along closed
  pub shown : a.shown.items ≡ shown_of machine.reported (plan_of a.along) closed

-- these windows were closed, and of the one with this number these tuples came
pub record IsAtWork {M : Type 0} (machine : MachineOf M) (a : Summing M) (closed : List Window) (number : ℕ) (tuples : List (List ℕ)) : Type 0 where
  pub along : IsAtHand machine a.along closed number tuples
  pub shown : a.shown.items ≡ shown_of machine.reported (plan_of a.along) closed
