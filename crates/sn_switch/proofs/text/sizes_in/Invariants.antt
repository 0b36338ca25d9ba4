use Rattle.std.proofs.Common.{◌≡◌, take}
use Rattle.sn_switch.proofs.text.sizes_in.Given as goal

abbrev pub invariant-loop-number : goal.invariant-loop-number
invariant-loop-number l = l.sizes ≡ take l.number-index l.numbers
