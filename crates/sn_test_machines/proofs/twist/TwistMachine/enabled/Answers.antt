use Rattle.std.proofs.Common.{ℕ, subst}
use Rattle.sn_core_net.specs.Steps.{IsOneOf}
use Rattle.sn_core_net.proofs.Zips.{length_lanes}
use Rattle.sn_test_machines.proofs.twist.TwistMachine.enabled.Goals as goal

pub enabled-requires : goal.enabled-requires
enabled-requires c =
    let net = c.args.self.now.net in
    subst (λ (n : ℕ). IsOneOf n c.args.event) (length_lanes net.lanes.items net.engine.lanes.items net.matched) c.requires
