-- serves proofs
-- A plan at work, between two windows of an epoch.
use Rattle.std.specs.Prelude.{◌≡◌, ℕ, List, Option, None}
use Rattle.sn_emit.specs.Plans.{pieces_from}
use Rattle.sn_emit.specs.declared.tables.Tables.{Tables}
use Rattle.sn_engine_lockstep.specs.declared.driver.Driver.{Driver}
use Rattle.sn_engine_lockstep.specs.Driving.{IsDriverOf}
use Rattle.sn_engine_lockstep.specs.Known.{last_from}
use Rattle.sn_engine_lockstep.specs.Windows.{answers_from}
use Rattle.sn_engine_lockstep.specs.Work.{AreIdle, Recalls}
use Rattle.sn_plan_grammar.specs.declared.plan.Entry.{Entry}
use Rattle.sn_types.specs.declared.answers.Answers.{Answers}
use Rattle.sn_types.specs.declared.typed_query.TypedQuery.{TypedQuery}
use Rattle.sn_windows.specs.Rising.{AreRising, Window}

-- These windows were answered along the plan since it was put in place, and none is open. The last answers are those of the last
-- of them, and the engine keeps their prefixes.
pub record Rests (queries : List TypedQuery) (tables : Tables) (entries : List Entry) (windows : List Window) (d : Driver)
    (answers : Option Answers) : Type 0 where
  pub driver : IsDriverOf queries entries d
  pub lanes : AreIdle queries tables (pieces_from 0 entries) d.emitter d.engine.lanes.items
  pub last : answers ≡ last_from None (answers_from queries tables entries None windows)
  pub recalls : Recalls queries (pieces_from 0 entries) answers d.engine.closed d.engine.kept
  pub rising : AreRising None windows
