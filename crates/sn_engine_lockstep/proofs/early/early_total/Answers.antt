use Rattle.std.proofs.Common.{◌≡◌, ◌<◌, ◌+◌, length, take, arith}
use Rattle.sn_engine_lockstep.specs.Early.{early_total}
use Rattle.sn_engine_lockstep.proofs.Earlies.{early_few, early_more}
use Rattle.sn_engine_lockstep.proofs.early.early_total.Goals as goal

pub overflow_add-early : goal.overflow_add-early
overflow_add-early c =
    let lanes = c.args.lanes.now in
    let i = c.loop-lane.lane-index in
    let lane = c.lane-item.result in
    let lt : i < length lanes = omega arith in
    let more : c.loop-lane.early + c.early_of.result ≡ early_total (take (i + 1) lanes) = early_more lanes i c.loop-lane.early c.early_of.result lane lt c.lane-item.is c.loop-lane.invariant c.early_of.ensures in
    omega (arith, more, early_few lanes (i + 1), c.requires)

pub loop-lane-preserved : goal.loop-lane-preserved
loop-lane-preserved c =
    let lanes = c.args.lanes.now in
    let lane = c.lane-item.result in
    let lt : c.loop-lane.lane-index < length lanes = omega arith in
    early_more lanes c.loop-lane.lane-index c.loop-lane.early c.early_of.result lane lt c.lane-item.is c.loop-lane.invariant c.early_of.ensures
