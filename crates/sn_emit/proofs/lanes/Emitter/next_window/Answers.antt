use Rattle.std.proofs.Common.{subst, sym}
use Rattle.sn_emit.specs.Plans.{AreLanesOf}
use Rattle.sn_emit.proofs.PlanLanes.{lanes_stay, start_stays}
use Rattle.sn_emit.proofs.lanes.Emitter.next_window.Goals as goal

pub returns-clause-lanes : goal.returns-clause-lanes
returns-clause-lanes c queries tables pieces h =
    lanes_stay queries tables pieces c.self.inside.lanes.items c.args.lane _ c.index_mut.result.now c.next_window.new.self c.index_mut.ensures.value
    (start_stays c.index_mut.result.now c.next_window.new.self c.args.kept c.next_window.ensures)
    (subst (AreLanesOf queries tables pieces) (sym c.self.view_is) h)
