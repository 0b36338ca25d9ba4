use Rattle.sn_plan_fit.proofs.LoadLaws.{piece_more, pieces_end}
use Rattle.sn_plan_fit.proofs.loads.add_entry.Goals as goal

pub loop-piece-preserved : goal.loop-piece-preserved
loop-piece-preserved c = piece_more c.args.depth c.args.query.now c.args.pieces.now c.loop-piece.piece-index c.piece-item.result c.loop-piece-test.true c.piece-item.is c.loop-piece.invariant c.add_query_piece.ensures

pub returns : goal.returns
returns c = pieces_end c.args.depth c.args.query.now c.args.pieces.now c.loop-piece.piece-index c.loop-piece-test.false c.loop-piece.invariant
