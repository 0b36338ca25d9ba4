use Rattle.std.proofs.Common.{◌≡◌, fold, max, take}
use Rattle.sn_lanes.proofs.slots8.greatest.Given as goal

abbrev pub invariant-loop-number : goal.invariant-loop-number
invariant-loop-number l = l.most ≡ fold max 0 (take l.number-index l.numbers)
