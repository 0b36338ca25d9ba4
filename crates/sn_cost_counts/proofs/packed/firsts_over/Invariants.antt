use Rattle.std.proofs.Common.{None, map, take}
use Rattle.sn_types.specs.Typed.{packet_row}
use Rattle.sn_cost_tally.specs.Firsts.{AreFirsts}
use Rattle.sn_cost_counts.proofs.packed.firsts_over.Given as goal

abbrev pub invariant-loop-place : goal.invariant-loop-place
invariant-loop-place g l = record {
  at : AreFirsts (map (packet_row None 0 l.fields) (take l.place l.tuples)) l.numbers.keys l.firsts;
}
