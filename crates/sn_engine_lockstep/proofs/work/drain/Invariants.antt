use Rattle.std.proofs.Common.{◌≡◌, ◌≢◌, ℕ, List, length, slice_get}
use Rattle.std.specs.Option.{option_map_or}
use Rattle.sn_engine_lockstep.proofs.Draining.{HasRead}
use Rattle.sn_emit.specs.Plans.{AreLanesOf, Placed}
use Rattle.sn_emit.specs.Senders.{frames_left}
use Rattle.sn_emit.specs.declared.tables.Tables.{Tables}
use Rattle.sn_types.specs.declared.typed_query.TypedQuery.{TypedQuery}
use Rattle.sn_engine_lockstep.proofs.Sending.{HasSent}
use Rattle.sn_engine_lockstep.proofs.work.drain.Given as goal

abbrev pub invariant-frames : goal.invariant-frames
invariant-frames g l = record {
  read : HasRead l.window l.lane l.initial.emitter l.emitter l.initial.engine.lanes.items l.engine.lanes.items;
  sent : HasSent g.W.Wire.word l.window l.lane l.initial.emitter l.emitter (g.W.Wire.reported l.initial.wire) (g.W.Wire.reported l.wire);
  count : length l.emitter ≡ length l.initial.emitter;
  others : (other : ℕ) → other ≢ l.lane → slice_get l.emitter other ≡ slice_get l.initial.emitter other;
  lanes : (queries : List TypedQuery) (tables : Tables) (pieces : List Placed) → AreLanesOf queries tables pieces l.initial.emitter → AreLanesOf queries tables pieces l.emitter;
  queries : l.engine.t.queries ≡ l.initial.engine.t.queries;
  closed : l.engine.closed ≡ l.initial.engine.closed;
  prefixes : l.engine.kept ≡ l.initial.engine.kept;
}

abbrev pub decreases-frames : goal.decreases-frames
decreases-frames g l = option_map_or (λ s. length (frames_left s l.window)) (slice_get l.emitter l.lane) 0
