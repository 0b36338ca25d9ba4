-- serves proofs
-- What is kept of a plan between two windows that it reports, and while a window is open.
use Rattle.std.specs.Prelude.{◌≡◌, ℕ, List, [], ◌∷◌, ◌++◌, length, Option, None}
use Rattle.std.specs.List.{AllByRecursion, flat_map, range_with_len}
use Rattle.sn_windows.specs.Rising.{AreRising, Window}
use Rattle.sn_engine_lockstep.specs.declared.driver.Driver.{Driver}
use Rattle.sn_engine_lockstep.specs.Driving as driving
use Rattle.sn_engine_lockstep.specs.Sources.{kept_in, source_of}
use Rattle.sn_engine_asked.specs.Asked.{AreHeard}
use Rattle.sn_engine_lockstep.specs.Work.{AreIdle, AreUnread, Recalls}
use Rattle.sn_emit.specs.Plans.{AreLanesOf, Placed, pieces_from}
use Rattle.sn_refine.specs.Steps.{Set}
use Rattle.sn_report.specs.Frames.{spelling}
use Rattle.sn_command_run.specs.Along.{last_of}
use Rattle.sn_command_run.specs.Planned.{Planned}
use Rattle.sn_types.specs.declared.answers.Answers.{Answers}
use Rattle.sn_types.specs.declared.typed_query.TypedQuery.{TypedQuery}
use Rattle.sn_types.specs.Typed.{HasWidths}
use Rattle.sn_command_emit.specs.declared.reporter.Reporter.{Reporter}
use Rattle.sn_command_emit.specs.Sent.{packet_frames}

-- the plan
abbrev pub plan_of : Reporter → Planned
plan_of a = record { queries = a.typed.queries; tables = a.tables; entries = a.plan.entries }

-- the driver is that of the plan
abbrev pub IsDriverOf : Planned → Driver → Type 0
IsDriverOf p d = driving.IsDriverOf p.queries p.entries d

-- the prefixes that the lane of a piece admits, where these are the answers of the last window
abbrev pub kept_now : List TypedQuery → Option Answers → ℕ → Placed → Set
kept_now queries last number x = kept_in queries last number (source_of x)

-- in each window all lanes admit the same after these answers as after the others
abbrev pub AdmitAlike : Planned → Option Answers → Option Answers → Type 0
AdmitAlike p last other =
    (number : ℕ) → AllByRecursion (λ (x : Placed). kept_now p.queries last number x ≡ kept_now p.queries other number x) (pieces_from 0 p.entries)

-- the engine keeps what the lanes admit after the answers along the plan to these windows
abbrev pub RecallsPlan : Planned → List Window → Driver → Type 0
RecallsPlan p closed d = Recalls p.queries (pieces_from 0 p.entries) (last_of p closed) d.engine.closed d.engine.kept

-- These bytes are those of the frames of the tuples so far, packet by packet, whatever tuples of the window come after them.
abbrev pub AreBytesOf : Planned → (Placed → Set) → List (List ℕ) → List ℕ → Type 0
AreBytesOf p kept tuples bytes = (more : List (List ℕ)) → AllByRecursion HasWidths more
    → bytes ≡ flat_map (spelling 2) (flat_map (packet_frames p kept (tuples ++ more)) (range_with_len 0 (length tuples)))

-- these windows were closed, and none is open
pub record IsIdle (a : Reporter) (closed : List Window) : Type 0 where
  pub driver : IsDriverOf (plan_of a) a.driver
  pub lanes : AreIdle a.typed.queries a.tables (pieces_from 0 a.plan.entries) a.driver.emitter a.driver.engine.lanes.items
  pub last : AdmitAlike (plan_of a) a.last (last_of (plan_of a) closed)
  pub recalls : RecallsPlan (plan_of a) closed a.driver
  pub none_sent : a.sent.items ≡ []
  pub rising : AreRising None closed

-- these windows were closed, and of the one with this number these tuples came
pub record IsAtHand (a : Reporter) (closed : List Window) (number : ℕ) (tuples : List (List ℕ)) : Type 0 where
  pub driver : IsDriverOf (plan_of a) a.driver
  pub work : AreHeard a.plan.entries a.typed.queries a.tables (pieces_from 0 a.plan.entries)
      (kept_in a.typed.queries (last_of (plan_of a) closed) number) tuples a.driver.emitter a.driver.engine.lanes.items
  pub lanes : AreLanesOf a.typed.queries a.tables (pieces_from 0 a.plan.entries) a.driver.emitter
  pub unread : AreUnread a.driver.emitter
  pub widths : AllByRecursion HasWidths tuples
  pub recalls : RecallsPlan (plan_of a) closed a.driver
  pub sent : AreBytesOf (plan_of a) (kept_now a.typed.queries (last_of (plan_of a) closed) number) tuples a.sent.items
  pub rising : AreRising None (closed ++ (number, []) ∷ [])

-- some windows were closed, and none is open
abbrev pub Rests : (List Window → Type 0) → Type 0
Rests idle = (closed : List Window) × idle closed
