use Rattle.std.proofs.Common.{◌≡◌, ◌<◌, fold, map, take, true}
use Rattle.std.specs.List.{list_any}
use Rattle.sn_engine.specs.Intakes.{after_frame, has_ended}
use Rattle.sn_engine_many.specs.Frames.{end_of}
use Rattle.sn_engine_many.proofs.gather.end_lanes.Given as goal

abbrev pub invariant-loop-x : goal.invariant-loop-x
invariant-loop-x l = record {
  taken : l.engine.lanes.items ≡ fold after_frame l.initial.engine.lanes.items (map (end_of l.window) (take l.x-index l.lanes));
  ended : 0 < l.x-index → list_any (has_ended l.window) l.engine.lanes.items ≡ true;
  queries : l.engine.t.queries ≡ l.initial.engine.t.queries;
  closed : l.engine.closed ≡ l.initial.engine.closed;
  prefixes : l.engine.kept ≡ l.initial.engine.kept;
}
