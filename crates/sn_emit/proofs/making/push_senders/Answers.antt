use Rattle.std.proofs.Common.{◌++◌, ◌∷◌, [], List, map, take, sym, subst}
use Rattle.sn_emit.specs.declared.sender.Sender.{Sender}
use Rattle.sn_emit.specs.Plans.{AreNewLanes, Placed, placed}
use Rattle.sn_emit.proofs.PlanLanes.{lanes_push, one_piece_more}
use Rattle.sn_emit.proofs.making.push_senders.Goals as goal

pub loop-piece-preserved : goal.loop-piece-preserved
loop-piece-preserved c done h =
    let a = c.args in
    let i = c.loop-piece.piece-index in
    let before : List Placed = done ++ map (placed a.q a.path.now) (take i a.pieces.now) in
    subst (λ (xs : List Placed). AreNewLanes a.t.now.queries a.tables xs c.push.new.self)
    (one_piece_more done (placed a.q a.path.now) a.pieces.now i c.piece-item.result c.loop-piece-test.true c.piece-item.is)
    (subst (λ (ss : List Sender). AreNewLanes a.t.now.queries a.tables (before ++ placed a.q a.path.now c.piece-item.result ∷ []) ss) (sym c.in_ok-push.ensures.ok)
    (lanes_push a.t.now.queries a.tables before (placed a.q a.path.now c.piece-item.result) c.loop-piece.lanes c.in_ok-sender.field-0 (c.loop-piece.invariant done h) c.in_ok-sender.ensures))
