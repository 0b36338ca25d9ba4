use Rattle.std.proofs.Common.{◌≡◌, drop}
use Rattle.sn_plan_fit.specs.Pieces.{cut_misfit, first_piece}
use Rattle.sn_plan_fit.proofs.whole.entry_cuts.Given as goal

abbrev pub invariant-loop-piece : goal.invariant-loop-piece
invariant-loop-piece l = first_piece (λ b p. cut_misfit b p) l.query (drop l.piece-index l.pieces) ≡ first_piece (λ b p. cut_misfit b p) l.query l.pieces
