-- serves proofs
-- What is kept of a machine that is watched.
use Rattle.std.specs.Prelude.{◌≡◌, ℕ, List}
use Rattle.sn_command_capture.specs.Gathering.{all_of}
use Rattle.sn_windows.specs.Rising.{Window}
use Rattle.sn_core_drive.specs.declared.machine.Machine.{Ghosts as MachineOf}
use Rattle.sn_command_run.specs.Along.{IsAtHand, plan_of}
use Rattle.sn_command_run.specs.Along as run
use Rattle.sn_core_drive.specs.Lines.{lines_of}
use Rattle.sn_core_drive.specs.Plain.{plain_state}
use Rattle.sn_core_drive.specs.Turns.{Watch}
use Rattle.sn_command_run.specs.TraceWording.{after_windows, lines_after, works_of}
use Rattle.sn_command_run.specs.declared.traced.Traced.{Traced}

-- A machine, the number that was drawn last, and these lines are what was watched: the machine but for the folds of a distinct's registers,
-- and the lines are those of what happened.
pub record IsWatched {M : Type 0} (machine : MachineOf M) (m : M) (number : ℕ) (lines : List ℕ) (watch : Watch) : Type 0 where
  pub lines_are : lines ≡ lines_of watch.since
  pub number_is : watch.number ≡ number
  pub state_is : watch.state ≡ plain_state (machine.state m)

-- these windows were closed, and of the one with this number these tuples came
pub record IsAtWork {M : Type 0} (machine : MachineOf M) (a : Traced M) (closed : List Window) (number : ℕ) (tuples : List (List ℕ)) : Type 0 where
  pub along : IsAtHand machine a.along closed number tuples
  pub works : machine.works a.along.machine ≡ works_of (plan_of a.along)
  pub watched : IsWatched machine a.along.machine a.along.draws.number a.lines.items (after_windows a.schedule (plan_of a.along) (all_of number closed tuples))

-- these windows were closed, and no other comes
pub record IsIdle {M : Type 0} (machine : MachineOf M) (a : Traced M) (closed : List Window) : Type 0 where
  pub along : run.IsIdle machine a.along closed
  pub lines : a.lines.items ≡ lines_after a.schedule (plan_of a.along) closed
