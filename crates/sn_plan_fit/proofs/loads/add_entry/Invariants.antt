use Rattle.std.proofs.Common.{drop}
use Rattle.sn_plan_fit.specs.Pieces.{entry_registers}
use Rattle.sn_plan_fit.proofs.LoadLaws.{Adding}
use Rattle.sn_plan_fit.proofs.loads.add_entry.Given as goal

abbrev pub invariant-loop-piece : goal.invariant-loop-piece
invariant-loop-piece l = Adding l.fn.loads l.loads (entry_registers l.depth l.query (drop l.piece-index l.pieces)) (entry_registers l.depth l.query l.pieces)
