use Rattle.std.proofs.Common.{subst, sym}
use Rattle.sn_emit.specs.Plans.{AreLanesOf}
use Rattle.sn_emit.proofs.PlanLanes.{lanes_stay, packet_stays}
use Rattle.sn_emit.proofs.lanes.Emitter.give.Goals as goal

pub returns-clause-lanes : goal.returns-clause-lanes
returns-clause-lanes c queries tables pieces h =
    lanes_stay queries tables pieces c.self.inside.lanes.items c.args.lane _ c.index_mut.result.now c.packet.new.self c.index_mut.ensures.value
    (packet_stays c.index_mut.result.now c.packet.new.self c.args.tuple.now c.packet.ensures.after)
    (subst (AreLanesOf queries tables pieces) (sym c.self.view_is) h)
