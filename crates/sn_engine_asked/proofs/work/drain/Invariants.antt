use Rattle.std.proofs.Common.{◌≡◌, ◌≢◌, ℕ, List, length, slice_get}
use Rattle.std.specs.Option.{option_map_or}
use Rattle.sn_engine_asked.proofs.Hearing.{HasHeard}
use Rattle.sn_emit.specs.Plans.{AreLanesOf, Placed}
use Rattle.sn_emit.specs.Senders.{frames_left}
use Rattle.sn_emit.specs.declared.tables.Tables.{Tables}
use Rattle.sn_report.specs.Frames.{spelling}
use Rattle.sn_types.specs.declared.typed_query.TypedQuery.{TypedQuery}
use Rattle.sn_engine_lockstep.proofs.Sending.{HasSent}
use Rattle.sn_engine_asked.proofs.work.drain.Given as goal

abbrev pub invariant-frames : goal.invariant-frames
invariant-frames l = record {
  read : HasHeard l.plan l.window l.lane l.initial.emitter l.emitter l.initial.engine.lanes.items l.engine.lanes.items;
  sent : HasSent (spelling 2) l.window l.lane l.initial.emitter l.emitter l.initial.bytes.items l.bytes.items;
  count : length l.emitter ≡ length l.initial.emitter;
  others : (other : ℕ) → other ≢ l.lane → slice_get l.emitter other ≡ slice_get l.initial.emitter other;
  lanes : (queries : List TypedQuery) (tables : Tables) (pieces : List Placed) → AreLanesOf queries tables pieces l.initial.emitter → AreLanesOf queries tables pieces l.emitter;
  queries : l.engine.t.queries ≡ l.initial.engine.t.queries;
  closed : l.engine.closed ≡ l.initial.engine.closed;
  prefixes : l.engine.kept ≡ l.initial.engine.kept;
}

abbrev pub decreases-frames : goal.decreases-frames
decreases-frames l = option_map_or (λ s. length (frames_left s l.window)) (slice_get l.emitter l.lane) 0
