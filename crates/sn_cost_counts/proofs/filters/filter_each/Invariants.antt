use Rattle.std.proofs.Common.{◌≡◌, ◌++◌, map, take, drop}
use Rattle.sn_types.specs.declared.typed_op.TOp.TheVariants as ops
use Rattle.sn_types.specs.Values.{op_at}
use Rattle.sn_cost_counts.specs.Flows.{stepped}
use Rattle.sn_cost_counts.proofs.filters.filter_each.Given as goal

abbrev pub invariant-loop-flow : goal.invariant-loop-flow
invariant-loop-flow g l = l.flows ≡ map (stepped 0 0 (op_at l.level (ops.Filter l.conds))) (take l.flow-index l.initial.flows) ++ drop l.flow-index l.initial.flows
