use Rattle.std.proofs.Common.{◌≡◌, ◌≤◌, ◌^◌, ◌-◌, ◌+◌, drop}
use Rattle.std.specs.List.{sum_by}
use Rattle.sn_plan_fit.specs.Capped.{capped}
use Rattle.sn_plan_space.specs.declared.known.KnownPiece.{KnownPiece}
use Rattle.sn_plan_space.proofs.queries.add_least.Given as goal

abbrev pub invariant-loop-piece : goal.invariant-loop-piece
invariant-loop-piece l = record {
  value : capped (l.total + sum_by (λ (p : KnownPiece). p.least) (drop l.piece-index l.pieces)) ≡ capped (l.sum + sum_by (λ (p : KnownPiece). p.least) l.pieces);
  most : l.total ≤ 2 ^ 64 - 1;
}
