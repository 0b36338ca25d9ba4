use Rattle.std.proofs.Common.{take}
use Rattle.std.specs.List.{AllByRecursion}
use Rattle.sn_base.specs.Columns.{IsOf}
use Rattle.sn_cost_seats.specs.Seats.{rows_at}
use Rattle.sn_cost_tally.specs.Weighed.{repeated}
use Rattle.sn_types.specs.Typed.{branch_at, first_columns, query_at}
use Rattle.sn_ops.specs.Packets.{packet_rows}
use Rattle.sn_cost_counts.specs.Coming.{ComeWeighed}
use Rattle.sn_cost_counts.proofs.weighed.come_weighed.Given as goal

abbrev pub invariant-loop-number : goal.invariant-loop-number
invariant-loop-number g l = record {
  come : ComeWeighed l.at.level l.ops (packet_rows (query_at l.at.t.now.queries l.at.q) l.at.b l.at.level l.at.kept (repeated (rows_at l.at.tuples.now (take l.number l.firsts.places.items)) (take l.number l.firsts.times.items))) l.found.reached.seen l.found.reached.passed l.found.rows l.found.weights.items;
  columns : AllByRecursion (IsOf (first_columns (branch_at l.at.t.now.queries l.at.q l.at.b))) (packet_rows (query_at l.at.t.now.queries l.at.q) l.at.b l.at.level l.at.kept (repeated (rows_at l.at.tuples.now (take l.number l.firsts.places.items)) (take l.number l.firsts.times.items)));
}
