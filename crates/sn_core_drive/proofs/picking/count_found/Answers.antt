use Rattle.std.proofs.Common.{arith}
use Rattle.sn_core_drive.proofs.Found.{long_deliveries, long_events, long_lanes, long_lasts}
use Rattle.sn_core_drive.proofs.picking.count_found.Goals as goal

pub returns : goal.returns
returns c =
    let x = c.args.found in
    omega (arith, long_events x, long_lanes x, long_deliveries x, long_lasts x, c.count_marked.ensures.count, c.count_marked-2.ensures.count, c.one_if.ensures.value, c.one_if-2.ensures.value, c.one_if-3.ensures.value)
