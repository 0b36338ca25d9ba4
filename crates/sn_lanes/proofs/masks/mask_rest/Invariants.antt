use Rattle.std.proofs.Common.{◌≡◌, map, take, bit_and}
use Rattle.sn_lanes.proofs.masks.mask_rest.Given as goal

abbrev pub invariant-loop-place : goal.invariant-loop-place
invariant-loop-place l = take l.place l.out ≡ map (λ x. bit_and x l.bits) (take l.place l.column)
