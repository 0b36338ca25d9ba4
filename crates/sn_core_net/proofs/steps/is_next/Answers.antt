use Rattle.std.proofs.Common.{nat_eq, ◌-◌, refl, arith}
use Rattle.sn_core_net.proofs.Both.{is_next}
use Rattle.sn_core_net.proofs.steps.is_next.Goals as goal

pub returns : goal.returns
returns c = is_next c.args.number c.args.closed (omega arith) (nat_eq (c.args.number - 1) c.args.closed) refl
