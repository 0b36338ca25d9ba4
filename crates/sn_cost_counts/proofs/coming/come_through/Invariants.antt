use Rattle.std.proofs.Common.{take}
use Rattle.std.specs.List.{AllByRecursion}
use Rattle.sn_base.specs.Columns.{IsOf}
use Rattle.sn_types.specs.Typed.{branch_at, first_columns, query_at}
use Rattle.sn_ops.specs.Packets.{packet_rows}
use Rattle.sn_cost_counts.specs.Coming.{HaveCome}
use Rattle.sn_cost_counts.proofs.coming.come_through.Given as goal

abbrev pub invariant-loop-tuple : goal.invariant-loop-tuple
invariant-loop-tuple g l = record {
  come : HaveCome l.at.level l.ops (packet_rows (query_at l.at.t.now.queries l.at.q) l.at.b l.at.level l.at.kept (take l.tuple-index l.at.tuples.now)) l.found.reached.seen l.found.reached.passed l.found.rows;
  columns : AllByRecursion (IsOf (first_columns (branch_at l.at.t.now.queries l.at.q l.at.b))) (packet_rows (query_at l.at.t.now.queries l.at.q) l.at.b l.at.level l.at.kept (take l.tuple-index l.at.tuples.now));
}
