use Rattle.std.proofs.Common.{arith}
use Rattle.sn_emit.specs.Plans.{pieces_from}
use Rattle.sn_emit.proofs.PlanLanes.{lanes_count, lanes_in_range}
use Rattle.sn_emit.proofs.lanes.Emitter.of.Goals as goal

pub invariant_of-result : goal.invariant_of-result
invariant_of-result c =
    let t = c.args.t.now in
    let es = c.args.plan.now.entries in
    let ss = c.in_ok-lanes.lanes.items in
    let new = c.in_ok-lanes.ensures in
    let few = c.requires.most in
    let count = lanes_count t.queries c.args.tables (pieces_from 0 es) ss new in
    (omega (arith, few, count), lanes_in_range t.queries c.args.tables (pieces_from 0 es) ss c.requires.can new)
