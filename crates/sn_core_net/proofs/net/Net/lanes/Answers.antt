use Rattle.std.proofs.Common.{sym, ◌∙◌}
use Rattle.sn_core_net.proofs.Zips.{length_lanes}
use Rattle.sn_core_net.proofs.net.Net.lanes.Goals as goal

pub returns-clause-lanes : goal.returns-clause-lanes
returns-clause-lanes c =
    let net = c.args.self.now in
    c.len.ensures ∙ net.lanes.ok.0 ∙ sym (length_lanes net.lanes.items net.engine.lanes.items net.matched)
