use Rattle.std.proofs.Common.{◌≡◌, drop}
use Rattle.sn_plan_fit.specs.Paths.{path_misfit}
use Rattle.sn_plan_fit.proofs.path.paths.Given as goal

abbrev pub invariant-loop-number : goal.invariant-loop-number
invariant-loop-number l = path_misfit l.number (drop l.number l.queries) l.rest ≡ path_misfit 0 l.queries l.entries
