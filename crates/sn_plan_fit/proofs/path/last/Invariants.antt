use Rattle.std.proofs.Common.{◌≡◌, drop}
use Rattle.sn_plan_fit.specs.Paths.{last_of, last_from}
use Rattle.sn_plan_fit.proofs.path.last.Given as goal

abbrev pub invariant-loop-number : goal.invariant-loop-number
invariant-loop-number l = last_from l.last (drop l.number-index l.numbers) ≡ last_of l.numbers
