use Rattle.std.proofs.Common.{◌≡◌, length}
use Rattle.sn_types_faults.specs.Faults.{are_rising}
use Rattle.sn_types_faults.proofs.faults.are_rising.Given as goal

abbrev pub invariant-loop-level : goal.invariant-loop-level
invariant-loop-level l = are_rising l.rest ≡ are_rising l.levels

abbrev pub decreases-loop-level : goal.decreases-loop-level
decreases-loop-level l = length l.rest
