use Rattle.std.proofs.Common.{ℕ, ◌+◌, ◌≤◌, ◌++◌, IfSome, drop, length, map}
use Rattle.std.specs.Option.{option_map}
use Rattle.sn_base.specs.Operators.{through}
use Rattle.sn_ops.specs.Flow.{AllFit}
use Rattle.sn_types.specs.Values.{op_at}
use Rattle.sn_cost_counts.specs.Fitting.{AllGo}
use Rattle.sn_cost_counts.specs.Flows.{counts_from}
use Rattle.sn_cost_counts.specs.Passing.{CanFollow, flows_of, held_by, unsplit_of}
use Rattle.sn_cost_counts.proofs.Going.{Along}
use Rattle.sn_cost_counts.proofs.Unsplit.{Follows}
use Rattle.sn_cost_counts.proofs.counts.counts_on.Given as goal

abbrev pub invariant-loop-op : goal.invariant-loop-op
invariant-loop-op g l = record {
  along : (passed : ℕ) → passed + length l.steps.ops.now ≤ 12 → AllGo l.steps.level passed l.steps.ops.now (flows_of l.fn.passing)
      → Along l.steps.registers.now.chain l.steps.level l.steps.registers.now.sizes.now l.steps.ops.now (l.fn.before ++ counts_from l.steps.registers.now.chain l.steps.level l.steps.registers.now.sizes.now l.steps.ops.now (flows_of l.fn.passing)) passed l.op-index (flows_of l.passing) l.counts;
  shape : CanFollow l.passing (drop l.op-index l.steps.ops.now);
  held : IfSome (held_by l.passing) (AllFit l.steps.level (drop l.op-index l.steps.ops.now));
  follows : Follows l.steps.level l.steps.ops.now (option_map (through (map (op_at l.steps.level) l.steps.ops.now)) (unsplit_of l.fn.passing)) l.op-index (unsplit_of l.passing);
}
