use Rattle.std.proofs.Common.{◌≡◌, ◌++◌, drop}
use Rattle.sn_plan.specs.Printing.{texts, piece_text}
use Rattle.sn_plan.proofs.canonical.put_pieces.Given as goal

abbrev pub invariant-loop-piece : goal.invariant-loop-piece
invariant-loop-piece l = l.out.items ++ texts piece_text (drop l.piece-index l.pieces) ≡ l.fn.out.items ++ texts piece_text l.pieces
