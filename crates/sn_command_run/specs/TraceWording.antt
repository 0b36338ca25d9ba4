-- to be believed
-- What is written of the windows of a capture that is answered along a plan, with the lines of what happens in the machine.
use Rattle.std.specs.Prelude.{ℕ, List, [], ◌++◌, filter, nat_le, None}
use Rattle.sn_command_capture.specs.Capture.{Answered}
use Rattle.sn_command_capture.specs.Gathering.{all_of}
use Rattle.sn_command_capture.specs.Wording.{Wording}
use Rattle.sn_core.specs.declared.supply.Supply.TheVariants.{End}
use Rattle.sn_core_net.specs.States.{Works}
use Rattle.sn_core_net.specs.PlanWorkings.{workings}
use Rattle.sn_plan_grammar.specs.declared.plan.Plan.{Plan}
use Rattle.sn_types_read.specs.Texts.{Queries}
use Rattle.sn_command_run.specs.Along.{supplies_of}
use Rattle.sn_command_run.specs.Planned.{Planned, Telling, reported_block, reported_lines}
use Rattle.sn_command_run.specs.Run.{planned, window_ns}
use Rattle.sn_command.specs.Outcomes.{Stage}
use Rattle.sn_switch.specs.declared.switch.Switch.{Switch}
use Rattle.sn_core_drive.specs.Lanes.{new_state}
use Rattle.sn_core_drive.specs.Lines.{lines_of}
use Rattle.sn_core_drive.specs.Turns.{Watch, up_to_close, watch_on, watch_over}
use Rattle.sn_windows.specs.Rising.{Window}

-- the windows of a capture up to one
abbrev pub up_to : ℕ → List Window → List Window
up_to number windows = filter (λ w. nat_le w.0 number) windows

abbrev pub works_of : Planned → Works
works_of p = workings p.queries p.entries

-- a schedule is the number from which draws follow
module _ (schedule : ℕ) (p : Planned) where
  -- A machine of the plan to which nothing was given, with room for 64 frames in each lane. Nothing has happened.
  abbrev pub at_first : Watch
  at_first = record { since = []; number = schedule; state = new_state 64 p.queries p.tables p.entries }

  -- once these windows were given, tuple by tuple
  abbrev pub after_windows : List Window → Watch
  after_windows windows = watch_over (works_of p) at_first (supplies_of windows)

  -- Before the block of a window: the lines of what happens from the close of the window before to its own. Nothing more comes of the
  -- window then, and what comes instead doesn't matter, so it may be the end.
  abbrev pub lines_before : List Window → ℕ → List ℕ
  lines_before windows number = lines_of (up_to_close (works_of p) (after_windows (up_to number windows)) End)

  -- of a window that isn't finished: the lines of what happens from the close of the window before, until the next tuple is wanted
  abbrev pub lines_so_far : List Window → ℕ → List (List ℕ) → List ℕ
  lines_so_far closed number tuples = lines_of (after_windows (all_of number closed tuples)).since

  -- after the block of the last window: the lines of what happens then
  abbrev pub lines_after : List Window → List ℕ
  lines_after windows = lines_of (watch_on (works_of p) (after_windows windows) End).since

  abbrev pub traced_wording : Telling → Wording
  traced_wording reported = record {
    first = [];
    block = λ windows number tuples. lines_before windows number ++ reported_block reported p windows number tuples;
    stops = λ windows number tuples. None;
    unfinished = lines_so_far;
    last = λ windows ending. lines_after windows ++ reported_lines reported p windows ending;
  }

-- the capture is answered along the plan in blocks, with the lines of what happens in the machine
abbrev pub TracedAlong : ℕ → Telling → List ℕ → Queries → Switch → Plan → Stage (Unit {0})
TracedAlong schedule reported capture read limits plan = Answered (traced_wording schedule (planned read limits plan) reported) (window_ns read) capture
