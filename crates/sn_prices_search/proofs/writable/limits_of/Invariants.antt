use Rattle.std.proofs.Common.{◌≤◌, length}
use Rattle.std.specs.List.{All}
use Rattle.sn_prices_search.specs.Writable.{IsWritable}
use Rattle.sn_prices_search.proofs.writable.limits_of.Given as goal

abbrev pub invariant-loop-line : goal.invariant-loop-line
invariant-loop-line l = (length l.limits ≤ 64) × All IsWritable l.limits
