use Rattle.std.proofs.Common.{◌≡◌, take}
use Rattle.sn_cost_tally.proofs.numbered.keys_in.Given as goal

abbrev pub invariant-loop-number : goal.invariant-loop-number
invariant-loop-number g l = l.keys ≡ take l.number l.numbers.keys
