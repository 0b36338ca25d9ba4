use Rattle.std.proofs.Common.{subst, sym}
use Rattle.std.specs.FinSet as set
use Rattle.sn_emit.specs.Plans.{AreLanesOf}
use Rattle.sn_emit.proofs.PlanLanes.{lanes_stay}
use Rattle.sn_emit.proofs.lanes.Emitter.read_out.Goals as goal

pub returns-clause-lanes : goal.returns-clause-lanes
returns-clause-lanes c queries tables pieces h =
    lanes_stay queries tables pieces c.self.inside.lanes.items c.args.lane _ c.index_mut.result.now c.read_out.new.self c.index_mut.ensures.value
    (record { lane = c.read_out.ensures.lane; pipe = c.read_out.ensures.pipe set.empty })
    (subst (AreLanesOf queries tables pieces) (sym c.self.view_is) h)
