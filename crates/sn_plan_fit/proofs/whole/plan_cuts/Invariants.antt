use Rattle.std.proofs.Common.{◌≡◌, drop}
use Rattle.sn_plan_fit.specs.Pieces.{cut_misfit, first_misfit}
use Rattle.sn_plan_fit.proofs.whole.plan_cuts.Given as goal

abbrev pub invariant-loop-query : goal.invariant-loop-query
invariant-loop-query l = first_misfit (λ path b p. cut_misfit b p) (drop l.query-index l.queries) l.rest ≡ first_misfit (λ path b p. cut_misfit b p) l.queries l.entries
