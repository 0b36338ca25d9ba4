use Rattle.std.proofs.Common.{◌≡◌, ℕ, ◌≤◌, List, ◌++◌, length, take, slice_get}
use Rattle.std.specs.List.{flat_map}
use Rattle.sn_engine_lockstep.specs.declared.source.Source.{Source}
use Rattle.sn_engine_lockstep.specs.Work.{AreAtWork, AreUnread, Each, frames_given}
use Rattle.sn_engine_lockstep.proofs.Giving.{Given}
use Rattle.sn_emit.specs.Plans.{AreLanesOf, Placed}
use Rattle.sn_emit.specs.declared.tables.Tables.{Tables}
use Rattle.sn_refine.specs.Steps.{Set}
use Rattle.sn_types.specs.declared.typed_query.TypedQuery.{TypedQuery}
use Rattle.sn_engine_lockstep.proofs.lanes.give_lanes.Given as goal

abbrev pub invariant-loop-lane : goal.invariant-loop-lane
invariant-loop-lane g l = record {
  count : length l.emitter ≡ length l.initial.emitter;
  unread : AreUnread l.emitter;
  queries : l.engine.t.queries ≡ l.initial.engine.t.queries;
  closed : l.engine.closed ≡ l.initial.engine.closed;
  prefixes : l.engine.kept ≡ l.initial.engine.kept;
  lanes : (queries : List TypedQuery) (tables : Tables) (pieces : List Placed) → AreLanesOf queries tables pieces l.initial.emitter → AreLanesOf queries tables pieces l.emitter;
  work : (queries : List TypedQuery) (tables : Tables) (pieces : List Placed) (kept : Source → Set) (tuples : List (List ℕ)) → AreAtWork queries tables pieces kept tuples l.initial.emitter l.initial.engine.lanes.items →
      Each (Given queries tables kept tuples l.tuple l.lane) pieces l.emitter l.engine.lanes.items;
  left : (j : ℕ) → l.lane ≤ j → slice_get l.emitter j ≡ slice_get l.initial.emitter j;
  sent : g.W.Wire.reported l.wire ≡ g.W.Wire.reported l.initial.wire ++ flat_map g.W.Wire.word (flat_map (frames_given l.tuple) (take l.lane l.initial.emitter));
}
