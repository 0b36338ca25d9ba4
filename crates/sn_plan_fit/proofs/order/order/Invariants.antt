use Rattle.std.proofs.Common.{◌≡◌, ◌≤◌, ◌+◌, ◌^◌, drop}
use Rattle.sn_plan_fit.specs.Tables.{order_misfit, op_tables}
use Rattle.sn_plan_fit.specs.Gaps.{least_after}
use Rattle.sn_plan_fit.proofs.order.order.Given as goal

abbrev pub invariant-loop-op : goal.invariant-loop-op
invariant-loop-op l = record {
  order : order_misfit l.least (op_tables l.depth (drop l.op-index l.ops) l.rest) ≡ order_misfit l.fn.least (op_tables l.depth l.ops l.stages);
  least : least_after l.least (op_tables l.depth (drop l.op-index l.ops) l.rest) ≡ least_after l.fn.least (op_tables l.depth l.ops l.stages);
  most : l.least ≤ 2 ^ 32 + l.op-index;
}
