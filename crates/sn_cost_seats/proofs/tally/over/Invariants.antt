use Rattle.std.proofs.Common.{◌≡◌, ◌+◌, drop}
use Rattle.sn_cost_seats.specs.Tallies.{sum_unmarked}
use Rattle.sn_cost_seats.proofs.tally.over.Given as goal

abbrev pub invariant-loop-place : goal.invariant-loop-place
invariant-loop-place l = l.sum + sum_unmarked (drop l.place l.homes) (drop l.place l.times) ≡ sum_unmarked l.homes l.times
