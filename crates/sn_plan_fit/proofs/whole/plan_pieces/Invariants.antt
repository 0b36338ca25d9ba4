use Rattle.std.proofs.Common.{◌≡◌, drop}
use Rattle.sn_plan_fit.specs.Pieces.{piece_misfit, first_misfit}
use Rattle.sn_plan_fit.proofs.whole.plan_pieces.Given as goal

abbrev pub invariant-loop-query : goal.invariant-loop-query
invariant-loop-query l = first_misfit (piece_misfit l.switch) (drop l.query-index l.queries) l.rest ≡ first_misfit (piece_misfit l.switch) l.queries l.entries
