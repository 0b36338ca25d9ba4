-- serves proofs
-- What is kept of several switches between two windows.
use Rattle.std.specs.Prelude.{◌≡◌, ℕ, List, [], ◌∷◌, ◌≤◌, Option, None, Some, length, map}
use Rattle.std.specs.List.{AllByRecursion}
use Rattle.sn_command_captures.specs.Answered.{Shared}
use Rattle.sn_command_many.specs.Together.{emitted_in, held_in}
use Rattle.sn_command_many.specs.declared.joint.Joint.{Joint}
use Rattle.sn_command_run.specs.Planned.{Planned}
use Rattle.sn_emit.specs.Making.{CanMake}
use Rattle.sn_emit.specs.Plans.{pieces_from}
use Rattle.sn_engine_lockstep.specs.Windows.{Remembers, window_of}
use Rattle.sn_engine_many.specs.Answers.{in_one}
use Rattle.sn_engine_many.specs.Phases.{AreBetween}
use Rattle.sn_engine_many.specs.declared.phase.Phase.TheVariants.{Between}
use Rattle.sn_plan_fit.specs.Fits.{AreEntriesOf}
use Rattle.sn_types.specs.Typed.{IsTyped}
use Rattle.sn_windows.specs.Rising.{AreRising}

-- the plan
abbrev pub plan_of : Joint → Planned
plan_of a = record { queries = a.typed.queries; tables = a.tables; entries = a.plan.entries }

-- the number of the last of these windows, if there is one
abbrev pub last_number : Option ℕ → List Shared → Option ℕ
last_number last [] = last
last_number last (w ∷ ws) = last_number (Some w.0) ws

-- Of all windows, which rise and hold the tuples of as many captures as there are switches, these were answered, and none is begun:
-- the switches run the plan, and the last answers are those along it over the tuples of all captures.
pub record IsAfter (a : Joint) (all done : List Shared) : Type 0 where
  pub typed_for : ℕ
  pub typed : ∥ IsTyped typed_for a.typed.queries ∥₁
  pub entries : AreEntriesOf a.typed.queries a.plan.entries
  pub can : AllByRecursion (CanMake a.typed.queries) (pieces_from 0 a.plan.entries)
  pub queries : a.many.engine.t.queries ≡ a.typed.queries
  pub few : length a.many.switches.items ≤ 8
  pub each : AllByRecursion (λ (w : Shared). length w.1 ≡ length a.many.switches.items) all
  pub rises : AreRising None (map in_one all)
  pub phase : a.many.phase ≡ Between
  pub between : AreBetween a.typed.queries a.tables a.plan.entries a.many.last a.many.switches.items a.many.engine
  pub remembers : Remembers a.typed.queries a.plan.entries (held_in all) a.many.last
  pub last : window_of a.many.last ≡ last_number None done
  pub emitted : a.emitted ≡ emitted_in (plan_of a) all done
