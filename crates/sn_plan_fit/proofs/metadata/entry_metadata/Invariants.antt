use Rattle.std.proofs.Common.{◌≡◌, ◌≤◌, ◌^◌, ◌-◌, ◌+◌, drop}
use Rattle.sn_plan_fit.specs.Pieces.{entry_metadata}
use Rattle.sn_plan_fit.specs.Capped.{capped}
use Rattle.sn_plan_fit.proofs.metadata.entry_metadata.Given as goal

abbrev pub invariant-loop-piece : goal.invariant-loop-piece
invariant-loop-piece l = record { value : capped (l.metadata + entry_metadata l.query (drop l.piece-index l.pieces)) ≡ capped (entry_metadata l.query l.pieces); most : l.metadata ≤ 2 ^ 64 - 1 }
