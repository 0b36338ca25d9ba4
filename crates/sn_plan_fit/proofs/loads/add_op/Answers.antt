use Rattle.sn_plan_fit.specs.Registers.{register_bits}
use Rattle.sn_plan_fit.proofs.loads.add_op.Goals as goal

pub returns : goal.returns
returns c = c.add_chain.ensures (register_bits c.args.size c.args.columns.now c.args.op.now) c.register_bits-bits.ensures
