use Rattle.std.proofs.Common.{List}
use Rattle.sn_emit.specs.Plans.{AreLanesOf, Placed}
use Rattle.sn_emit.specs.declared.tables.Tables.{Tables}
use Rattle.sn_types.specs.declared.typed_query.TypedQuery.{TypedQuery}
use Rattle.sn_engine_lockstep.specs.Sources.{kept_in}
use Rattle.sn_engine_lockstep.specs.Work.{Begins}
use Rattle.sn_engine_lockstep.proofs.lanes.begin_lanes.Given as goal

abbrev pub invariant-loop-lane : goal.invariant-loop-lane
invariant-loop-lane l = record {
  begun : Begins (kept_in l.t.queries l.last l.window) l.sources l.lane l.initial.emitter l.emitter;
  lanes : (queries : List TypedQuery) (tables : Tables) (pieces : List Placed) → AreLanesOf queries tables pieces l.initial.emitter → AreLanesOf queries tables pieces l.emitter;
}
