use Rattle.std.proofs.Common.{◌≡◌, fold, ◌∙◌}
use Rattle.std.specs.List.{flat_map}
use Rattle.sn_engine.proofs.Firsts.{ok_then}
use Rattle.sn_engine.specs.Intakes.{after_frame}
use Rattle.sn_engine.specs.Moving.{after_lane}
use Rattle.sn_engine_many.proofs.Taking.{lanes_by_frames}
use Rattle.sn_engine_many.specs.Frames.{frames_of}
use Rattle.sn_engine_many.proofs.gather.gather.Goals as goal

pub returns-clause-taken : goal.returns-clause-taken
returns-clause-taken c =
    let queries = c.args.switch.now.t.queries in
    let lanes = c.args.engine.now.lanes.items in
    let gathered = c.args.switch.now.lanes.items in
    ok_then (c.take_all.new.self.lanes.items ≡ fold (after_lane queries) lanes gathered) (c.take_all.new.self.lanes.items ≡ fold after_frame lanes (flat_map (frames_of queries) gathered)) c.take_all.result
    (λ is. is ∙ lanes_by_frames queries lanes gathered) c.take_all.ensures.taken
