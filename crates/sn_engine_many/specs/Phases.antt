-- serves proofs
-- What holds of several switches between two calls.
use Rattle.std.specs.Prelude.{◌≡◌, ℕ, ◌<◌, List, length, map, Bool, true, false, Option}
use Rattle.std.specs.List.{AllByRecursion, AllByRecursion-prop}
use Rattle.std.proofs.Math.Bridge.{le_prop}
use Rattle.std.proofs.Math.Nat.{ℕ_set}
use Rattle.sn_emit.specs.Plans.{pieces_from}
use Rattle.sn_emit.specs.declared.sender.Sender.{Sender}
use Rattle.sn_emit.specs.declared.tables.Tables.{Tables}
use Rattle.sn_engine.specs.Intakes.{intakes_of, shared}
use Rattle.sn_engine.specs.Keeping.{kept_for}
use Rattle.sn_engine.specs.declared.engine.Engine.{Engine}
use Rattle.sn_engine_lockstep.specs.Work.{AreKept, Recalls}
use Rattle.sn_engine_lockstep.specs.declared.driver.Driver.{Driver}
use Rattle.sn_engine_lockstep.specs.declared.source.Source.{Source}
use Rattle.sn_engine_many.specs.Switches.{AreWorking, CanBegin, CanTake, IsResting, shorts_of}
use Rattle.sn_engine_many.specs.declared.phase.Phase.{Phase}
use Rattle.sn_engine_many.specs.declared.phase.Phase.TheVariants.{Between, Begun, Spent}
use Rattle.sn_plan_grammar.specs.declared.plan.Entry.{Entry}
use Rattle.sn_refine.specs.Steps.{Set}
use Rattle.sn_types.specs.declared.answers.Answers.{Answers}
use Rattle.sn_types.specs.declared.typed_query.TypedQuery.{TypedQuery}

abbrev pub is_between : Phase → Bool
is_between Between = true
is_between (Begun window) = false
is_between Spent = false

abbrev pub is_begun : Phase → Bool
is_begun Between = false
is_begun (Begun window) = true
is_begun Spent = false

-- No window is begun, nothing has come to the engine of all switches, and what it keeps of the window that it closed last is, for each
-- window, what these last answers give the lanes.
pub record AreBetween (queries : List TypedQuery) (tables : Tables) (entries : List Entry) (last : Option Answers) (switches : List Driver)
    (engine : Engine) : Type 0 where
  pub each : AllByRecursion (IsResting queries tables (shorts_of queries entries)) switches
  pub none : engine.lanes.items ≡ map shared (intakes_of 0 entries)
  pub recalls : Recalls queries (pieces_from 0 entries) last engine.closed engine.kept

-- A window of this number is begun, and these tuples came, by switch; the items stay with their switch until the window is closed. The
-- prefixes by which the engine then drops items are those that the lanes admit.
pub record AreBegun (queries : List TypedQuery) (tables : Tables) (entries : List Entry) (kept : Source → Set) (window : ℕ)
    (captures : List (List (List ℕ))) (switches : List Driver) (engine : Engine) : Type 0 where
  pub each : AreWorking queries tables (shorts_of queries entries) kept captures switches
  pub none : engine.lanes.items ≡ map shared (intakes_of 0 entries)
  pub held : AreKept (pieces_from 0 entries) kept (kept_for engine.closed engine.kept window)

-- each switch can do what comes next
abbrev pub AreReady : Phase → List Driver → Type 0
AreReady Between switches = AllByRecursion CanBegin switches
AreReady (Begun window) switches = AllByRecursion CanTake switches
AreReady Spent switches = Unit {0}

-- this is a proposition
can_begin_prop : (d : Driver) → IsProp (CanBegin d)
can_begin_prop d = hlevel (ℕ_set, AllByRecursion-prop (λ (source : Source). source.query < length d.engine.t.queries) (λ source. le_prop) d.sources)

can_take_prop : (d : Driver) → IsProp (CanTake d)
can_take_prop d = hlevel (can_begin_prop d, AllByRecursion-prop (λ (s : Sender). s.pipe.prefix.place ≡ 0) (λ s. ℕ_set s.pipe.prefix.place 0) d.emitter)

pub are_ready_prop : (phase : Phase) (switches : List Driver) → IsProp (AreReady phase switches)
are_ready_prop Between switches = AllByRecursion-prop CanBegin can_begin_prop switches
are_ready_prop (Begun window) switches = AllByRecursion-prop CanTake can_take_prop switches
are_ready_prop Spent switches = hlevel
