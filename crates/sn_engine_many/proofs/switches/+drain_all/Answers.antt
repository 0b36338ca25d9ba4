use Rattle.std.proofs.Common.{map, subst}
use Rattle.std.specs.List.{flat_map}
use Rattle.sn_engine_lockstep.specs.Work.{done}
use Rattle.sn_engine_many.proofs.Switching.{drain_more, drain_none}
use Rattle.sn_engine_many.specs.Switches.{AreWorking}
use Rattle.sn_engine_many.specs.Frames.{frames_of}
use Rattle.sn_engine_many.proofs.switches.+drain_all.Goals as goal

pub returns-in_ok-drain_all-clause-work : goal.returns-in_ok-drain_all-clause-work
returns-in_ok-drain_all-clause-work t c = λ typed_for tables queries pieces kept captures ty can widths w.
    drain_more queries tables pieces kept (λ tuples. flat_map (frames_of queries) (map (done queries tables kept tuples c.args.window) pieces))
    c.in-Some.first.now c.drain_one.new.switch c.in-Some.rest.now c.drain_all.new.switches c.args.engine.now.lanes.items c.drain_one.new.engine.lanes.items c.drain_all.new.engine.lanes.items
    (λ tuples ws working. c.in_ok-drain_one.ensures.work typed_for tables queries pieces kept tuples ty can ws working)
    (λ cs ws working. c.in_ok-drain_all.ensures.work typed_for tables queries pieces kept cs ty can ws working)
    captures widths (subst (AreWorking queries tables pieces kept captures) c.in-Some.ensures.cases.0 w)

pub returns-in_default-clause-work : goal.returns-in_default-clause-work
returns-in_default-clause-work t c = λ typed_for tables queries pieces kept captures ty can widths w.
    drain_none queries tables pieces kept (λ tuples. flat_map (frames_of queries) (map (done queries tables kept tuples c.args.window) pieces))
    c.args.engine.now.lanes.items c.args.switches.now captures c.in_default.ensures.cases w
