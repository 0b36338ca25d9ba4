-- serves proofs
-- What is kept of a plan that answers the windows of a capture by a machine.
use Rattle.std.specs.Prelude.{◌≡◌, ℕ, ◌<◌, List, [], ◌∷◌, ◌++◌, map, sum, length, Option, None}
use Rattle.std.specs.List.{AllByRecursion, flat_map}
use Rattle.sn_command_capture.specs.Gathering.{all_of}
use Rattle.sn_windows.specs.Rising.{AreRising, Window}
use Rattle.sn_core.specs.Due.{due}
use Rattle.sn_core.specs.Due as core
use Rattle.sn_core.specs.Numbers.{DontFall}
use Rattle.sn_core.specs.Standing.{IsNet}
use Rattle.sn_core.specs.declared.supply.Supply.{Supply}
use Rattle.sn_core.specs.declared.supply.Supply.TheVariants.{Numbered}
use Rattle.sn_core.specs.declared.supply.Window.TheVariants.{Begun, Idle}
use Rattle.sn_core_drive.specs.declared.machine.Machine.{Ghosts as MachineOf}
use Rattle.sn_engine_lockstep.specs.Known.{last_from}
use Rattle.sn_engine_lockstep.specs.Windows.{answers_from, plan_answers}
use Rattle.sn_plan_fit.specs.Fits.{AreEntriesOf}
use Rattle.sn_core_net.specs.States.{State, Works}
use Rattle.sn_core_net.specs.PlanWorkings.{HaveWidths, given_of}
use Rattle.sn_refine.specs.Steps.{windows_of}
use Rattle.sn_types.specs.declared.answers.Answers.{Answers}
use Rattle.sn_types.specs.Typed.{HasWidths, IsTyped}
use Rattle.sn_command_run.specs.declared.along.Along.{Along}
use Rattle.sn_command_run.specs.Planned.{Planned, Telling}

-- the plan
abbrev pub plan_of : {M : Type 0} → Along M → Planned
plan_of a = record { queries = a.typed.queries; tables = a.tables; entries = a.plan.entries }

-- what windows are answered, one after another
abbrev pub answers_of : Planned → List Window → List Answers
answers_of p closed = answers_from p.queries p.tables p.entries None closed

abbrev pub last_of : Planned → List Window → Option Answers
last_of p closed = last_from None (answers_of p closed)

-- what is reported of it, and how many items were reported as sent
abbrev pub reported_of : Telling → Planned → List Window → List Answers
reported_of reported p closed = map reported (answers_of p closed)

abbrev pub sent_in : Telling → Planned → List Window → ℕ
sent_in reported p closed = sum (map (λ (a : Answers). a.emitted) (reported_of reported p closed))

-- ---- what a machine is given

abbrev pub supplies_in : Window → List (Supply (List ℕ))
supplies_in w = map (Numbered w.0) w.1

abbrev pub supplies_of : List Window → List (Supply (List ℕ))
supplies_of windows = flat_map supplies_in windows

-- the answers along the plan for the windows that are given
abbrev pub answers_for : Planned → List (Supply (List ℕ)) → List Answers
answers_for p supplies =
    let windows = core.windows_of supplies in
    map (λ x. plan_answers p.queries p.tables p.entries (windows_of (map given_of windows)) x.number) windows

-- Whatever follows what was given: what was reported, and then what is reported of what is due, is what is reported of all answers along the plan.
abbrev pub Owes : Works → Telling → Planned → List (Supply (List ℕ)) → List Answers → State → Type 0
Owes w reported p given taken s = (following : List (Supply (List ℕ))) → DontFall 0 (given ++ following) → HaveWidths (core.windows_of (given ++ following))
    → taken ++ map reported (due w s following) ≡ map reported (answers_for p (given ++ following))

-- a window holds tuples, whose numbers have the widths of their fields
pub record IsSound (w : Window) : Type 0 where
  pub some : 0 < length w.1
  pub widths : AllByRecursion HasWidths w.1

-- The plan is one of typed queries. Its machine stands, and waits for what is given next: it was given these windows, and reported the
-- answers of those that were closed.
pub record IsFed {M : Type 0} (machine : MachineOf M) (a : Along M) (given closed : List Window) : Type 0 where
  pub typed_for : ℕ
  pub typed : ∥ IsTyped typed_for a.typed.queries ∥₁
  pub entries : AreEntriesOf a.typed.queries a.plan.entries
  pub stands : IsNet (machine.works a.machine) (machine.state a.machine)
  pub taken : (machine.state a.machine).waiting ≡ None
  pub sound : AllByRecursion IsSound given
  pub owes : Owes (machine.works a.machine) machine.reported (plan_of a) (supplies_of given) (reported_of machine.reported (plan_of a) closed) (machine.state a.machine)
  pub emitted : a.emitted ≡ sent_in machine.reported (plan_of a) closed

-- of the window with this number these tuples were given, all of which are used up
abbrev pub IsUsed : ℕ → List (List ℕ) → State → Type 0
IsUsed number [] s = (s.held ≡ None) × (s.window ≡ Idle)
IsUsed number (t ∷ ts) s = (s.held ≡ None) × (s.window ≡ Begun number)

-- these windows were closed, and of the one with this number these tuples came
pub record IsAtHand {M : Type 0} (machine : MachineOf M) (a : Along M) (closed : List Window) (number : ℕ) (tuples : List (List ℕ)) : Type 0 where
  pub fed : IsFed machine a (all_of number closed tuples) closed
  pub used : IsUsed number tuples (machine.state a.machine)
  pub rising : AreRising None (closed ++ (number, []) ∷ [])

-- these windows were closed, and no other comes
pub record IsIdle {M : Type 0} (machine : MachineOf M) (a : Along M) (closed : List Window) : Type 0 where
  pub entries : AreEntriesOf a.typed.queries a.plan.entries
  pub emitted : a.emitted ≡ sent_in machine.reported (plan_of a) closed
  pub rising : AreRising None closed
