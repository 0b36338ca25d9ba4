use Rattle.std.proofs.Common.{◌≡◌, map, take}
use Rattle.sn_lanes_narrow.specs.Marks.{number_mark}
use Rattle.sn_lanes_narrow.proofs.compare.compare_rest.Given as goal

abbrev pub invariant-loop-place : goal.invariant-loop-place
invariant-loop-place g l = take l.place l.out ≡ map (λ x. number_mark l.cmp l.and l.constant (g.L.Lane.value x)) (take l.place l.column)
