use Rattle.std.proofs.Common.{◌++◌, List, map, take}
use Rattle.sn_emit.specs.Plans.{AreNewLanes, Placed, placed}
use Rattle.sn_emit.proofs.making.push_senders.Given as goal

abbrev pub invariant-loop-piece : goal.invariant-loop-piece
invariant-loop-piece l = (done : List Placed) → AreNewLanes l.t.queries l.tables done l.initial.lanes →
    AreNewLanes l.t.queries l.tables (done ++ map (placed l.q l.path) (take l.piece-index l.pieces)) l.lanes
