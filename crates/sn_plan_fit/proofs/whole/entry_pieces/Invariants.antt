use Rattle.std.proofs.Common.{◌≡◌, drop}
use Rattle.sn_plan_fit.specs.Pieces.{piece_misfit, first_piece}
use Rattle.sn_plan_fit.proofs.whole.entry_pieces.Given as goal

abbrev pub invariant-loop-piece : goal.invariant-loop-piece
invariant-loop-piece l = first_piece (piece_misfit l.switch l.path) l.query (drop l.piece-index l.pieces) ≡ first_piece (piece_misfit l.switch l.path) l.query l.pieces
