use Rattle.std.proofs.Common.{◌≡◌, drop}
use Rattle.sn_plan_fit.specs.Paths.{rises, rises_from}
use Rattle.sn_plan_fit.proofs.path.rises.Given as goal

abbrev pub invariant-loop-number : goal.invariant-loop-number
invariant-loop-number l = rises_from l.before (drop l.number-index l.rest) ≡ rises l.numbers
