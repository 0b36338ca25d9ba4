use Rattle.std.proofs.Common.{ℕ, subst}
use Rattle.sn_core_net.specs.Steps.{IsOneOf}
use Rattle.sn_core_net.proofs.Zips.{length_lanes}
use Rattle.sn_test_machines.proofs.twist.TwistMachine.happen.Goals as goal

pub happen-requires-clause-lane : goal.happen-requires-clause-lane
happen-requires-clause-lane c =
    let net = c.args.self.now.net in
    subst (λ (n : ℕ). IsOneOf n c.args.event) (length_lanes net.lanes.items net.engine.lanes.items net.matched) c.requires.lane
