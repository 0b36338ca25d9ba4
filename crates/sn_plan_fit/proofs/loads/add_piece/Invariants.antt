use Rattle.std.proofs.Common.{drop}
use Rattle.sn_plan_fit.specs.Registers.{op_registers}
use Rattle.sn_plan_fit.specs.Pieces.{registers_of}
use Rattle.sn_plan_fit.proofs.LoadLaws.{Adding}
use Rattle.sn_plan_fit.proofs.loads.add_piece.Given as goal

abbrev pub invariant-loop-n : goal.invariant-loop-n
invariant-loop-n l = Adding l.fn.loads l.loads (op_registers l.depth l.schemas l.n (drop l.n l.ops) l.sizes l.stages) (registers_of l.depth l.branch l.piece)
