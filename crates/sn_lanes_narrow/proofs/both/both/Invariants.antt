use Rattle.std.proofs.Common.{◌≡◌, bit_and, drop, take}
use Rattle.std.specs.Simd.Lanes.{zip2}
use Rattle.sn_lanes_narrow.proofs.both.both.Given as goal

abbrev pub invariant-loop-place : goal.invariant-loop-place
invariant-loop-place l = record {
  done : take l.place l.out ≡ zip2 bit_and (take l.place l.initial.out) (take l.place l.marks);
  rest : drop l.place l.out ≡ drop l.place l.initial.out;
}
