use Rattle.std.proofs.Common.{◌≡◌, drop}
use Rattle.std.specs.List.{list_all}
use Rattle.sn_engine.specs.Moving.{has_lane_for}
use Rattle.sn_engine.proofs.moving.has_lanes_for.Given as goal

abbrev pub invariant-loop-x : goal.invariant-loop-x
invariant-loop-x l = list_all (has_lane_for l.t.queries l.lanes l.given.queries) (drop l.x-index l.others) ≡ list_all (has_lane_for l.t.queries l.lanes l.given.queries) l.others
