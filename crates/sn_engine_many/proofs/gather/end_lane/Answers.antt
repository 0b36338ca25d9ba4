use Rattle.std.proofs.Common.{ap, ◌∙◌}
use Rattle.std.specs.List.{list_any}
use Rattle.sn_engine.specs.Intakes.{has_ended}
use Rattle.sn_engine_many.proofs.Ending.{end_taken}
use Rattle.sn_engine_many.proofs.gather.end_lane.Goals as goal

pub returns-in-Ok-clause-ended : goal.returns-in-Ok-clause-ended
returns-in-Ok-clause-ended c =
    let e = c.args.engine.now in
    ap (list_any (has_ended c.args.window)) c.in-Ok.ensures.taken
    ∙ end_taken e.t.queries e.lanes.items e.closed c.in-Some.lane c.args.window c.in-Ok.ensures.fault
