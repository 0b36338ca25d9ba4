use Rattle.std.proofs.Common.{◌≡◌, drop, max}
use Rattle.sn_plan_fit.specs.Registers.{metadata}
use Rattle.sn_plan_fit.specs.Pieces.{metadata_of}
use Rattle.sn_plan_fit.proofs.metadata.piece_metadata.Given as goal

abbrev pub invariant-loop-n : goal.invariant-loop-n
invariant-loop-n l = max l.widest (metadata l.schemas l.mapped l.n (drop l.n l.ops)) ≡ metadata_of l.branch l.piece
