use Rattle.std.proofs.Common.{◌≡◌, ℕ, List, [], length, take}
use Rattle.std.specs.List.{AllByRecursion}
use Rattle.sn_emit.specs.Plans.{AreLanesOf, Placed}
use Rattle.sn_emit.specs.declared.tables.Tables.{Tables}
use Rattle.sn_engine_lockstep.specs.declared.source.Source.{Source}
use Rattle.sn_engine_lockstep.specs.Work.{AreAtWork, AreUnread}
use Rattle.sn_refine.specs.Steps.{Set}
use Rattle.sn_types.specs.declared.typed_query.TypedQuery.{TypedQuery}
use Rattle.sn_types.specs.Typed.{HasWidths}
use Rattle.sn_replan.proofs.give.give.Given as goal

abbrev pub invariant-loop-tuple : goal.invariant-loop-tuple
invariant-loop-tuple l = record {
  work : (queries : List TypedQuery) (tables : Tables) (pieces : List Placed) (kept : Source → Set) → AreAtWork queries tables pieces kept [] l.fn.driver.emitter l.fn.driver.engine.lanes.items
      → AreAtWork queries tables pieces kept (take l.tuple-index l.tuples) l.driver.emitter l.driver.engine.lanes.items;
  widths : AllByRecursion HasWidths (take l.tuple-index l.tuples);
  unread : AreUnread l.driver.emitter;
  lanes : (queries : List TypedQuery) (tables : Tables) (pieces : List Placed) → AreLanesOf queries tables pieces l.fn.driver.emitter → AreLanesOf queries tables pieces l.driver.emitter;
  count : length l.driver.emitter ≡ length l.fn.driver.emitter;
  queries : l.driver.engine.t.queries ≡ l.fn.driver.engine.t.queries;
  closed : l.driver.engine.closed ≡ l.fn.driver.engine.closed;
  prefixes : l.driver.engine.kept ≡ l.fn.driver.engine.kept;
  sources : l.driver.sources ≡ l.fn.driver.sources;
}
