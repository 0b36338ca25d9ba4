-- serves proofs
-- What is kept of a capture that is answered along the plans of its epochs.
use Rattle.std.specs.Prelude.{◌≡◌, ℕ, ◌<◌, List, [], ◌∷◌, ◌++◌, length, Bool, Option, None, Some, Result, Ok, Err}
use Rattle.std.specs.List.{AllByRecursion}
use Rattle.sn_command.specs.declared.fault.Fault.{Fault}
use Rattle.sn_command_search.specs.declared.certificate.Certificate.{Certificate}
use Rattle.sn_command_replan.specs.Replan.{Followed, entries_of, epochs_of, sent_in}
use Rattle.sn_command_replan.specs.Standing.{Current, Standing, heading_next, over_at, sent_by, stands_after}
use Rattle.sn_command_replan.specs.declared.replanning.Replanning.{Replanning}
use Rattle.sn_plan_fit.specs.Fits.{AreEntriesOf}
use Rattle.sn_replan.specs.Epochs.{Span, span}
use Rattle.sn_replan.specs.declared.epochs.Epochs.{Epochs}
use Rattle.sn_replan.specs.Running.{Runs, last_window}
use Rattle.sn_switch.specs.Texts.{IsSwitch}
use Rattle.sn_types.specs.declared.typed_query.TypedQuery.{TypedQuery}
use Rattle.sn_types.specs.Typed.{HasWidths}
use Rattle.sn_windows.specs.Rising.{AreRising, IsAbove, Window}
use Rattle.sn_emit.specs.Plans.{tables_of}
use Rattle.sn_emit.specs.declared.tables.Tables.{Tables}

-- what was given before the capture
abbrev pub followed : Replanning → Followed
followed a = record { queries = a.typed.queries; limits = a.limits; nodes = a.nodes; most = a.epochs.most; first = a.first }

-- the epochs at work: of queries on a switch with this room, the number of the current one, what stands before the block of the next
-- window, and why there is no plan for it
pub record Work : Type 0 where
  pub queries : List TypedQuery
  pub tables : Tables
  pub epochs : Epochs
  pub number : ℕ
  pub heading : List ℕ
  pub refused : Option Fault

abbrev pub work_of : Replanning → Work
work_of a = record { queries = a.typed.queries; tables = tables_of a.limits; epochs = a.epochs; number = a.number; heading = a.heading; refused = a.refused }

-- the current epoch is at work, before a window with this number
pub record IsGoing (w : Work) (front : List (Span Certificate)) (c : Current) (number : ℕ) : Type 0 where
  pub none : w.refused ≡ None
  pub runs : Runs w.queries w.tables (entries_of c.plan) c.before w.epochs
  pub above : IsAbove (last_window w.epochs) number
  pub entries : AreEntriesOf w.queries (entries_of c.plan)
  pub count : w.number ≡ length front
  pub heading : w.heading ≡ heading_next c.before w.number c.plan

abbrev pub StandsIn : Work → List (Span Certificate) → Result Current Fault → ℕ → Type 0
StandsIn w front (Ok c) number = IsGoing w front c number
StandsIn w front (Err fault) number = w.refused ≡ Some fault

abbrev pub Stands : Work → Standing → ℕ → Type 0
Stands w s number = StandsIn w s.front s.current number

-- these windows were closed, and of the one with this number these tuples came
pub record IsAtHand (a : Replanning) (closed : List Window) (number : ℕ) (tuples : List (List ℕ)) : Type 0 where
  pub switch : IsSwitch a.limits
  pub held : a.tuples ≡ tuples
  pub widths : AllByRecursion HasWidths tuples
  pub stands : Stands (work_of a) (stands_after (followed a) closed) number
  pub sent : a.emitted ≡ sent_by (followed a) (stands_after (followed a) closed)
  pub new : tuples ≡ [] → closed ≡ []
  pub rising : AreRising None (closed ++ (number, []) ∷ [])

-- these windows were closed, and no other comes
abbrev pub IsIdle : Replanning → List Window → Type 0
IsIdle a closed = a.emitted ≡ sent_in (followed a) (epochs_of (followed a) closed).spans

-- The window with this number and these tuples was answered in the current epoch, after these windows. Nothing was planned on it.
pub record IsAnswered (f : Followed) (a : Replanning) (closed : List Window) (number : ℕ) (tuples : List (List ℕ)) (over : Bool) : Type 0 where
  pub c : Current
  pub current : (stands_after f closed).current ≡ Ok c
  pub switch : IsSwitch a.limits
  pub held : a.tuples ≡ tuples
  pub over_is : over ≡ over_at f c.plan c.before (number, tuples)
  pub heading : a.heading ≡ []
  pub none : a.refused ≡ None
  pub runs : Runs a.typed.queries (tables_of a.limits) (entries_of c.plan) (c.before ++ (number, tuples) ∷ []) a.epochs
  pub last : last_window a.epochs ≡ Some number
  pub entries : AreEntriesOf a.typed.queries (entries_of c.plan)
  pub count : a.number ≡ length (stands_after f closed).front
  pub sent : a.emitted ≡ sent_in f ((stands_after f closed).front ++ span c.plan (c.before ++ (number, tuples) ∷ []) ∷ [])

-- these windows were closed, of which the last one has this number, and a later one comes
pub record IsClosed (f : Followed) (a : Replanning) (closed : List Window) (at_hand : ℕ) : Type 0 where
  pub switch : IsSwitch a.limits
  pub stands : (number : ℕ) → at_hand < number → Stands (work_of a) (stands_after f closed) number
  pub sent : a.emitted ≡ sent_by f (stands_after f closed)
