use Rattle.std.proofs.Common.{◌≡◌, List, [], length, map, ◌∙◌, ap}
use Rattle.sn_engine.proofs.Firsts.{ok_then}
use Rattle.sn_emit.specs.Plans.{Placed}
use Rattle.sn_emit.specs.declared.tables.Tables.{Tables}
use Rattle.sn_engine_lockstep.specs.Sources.{kept_in, source_of}
use Rattle.sn_engine_lockstep.specs.Work.{AreAtWork, AreIdle, AreUnread, Begins}
use Rattle.sn_engine_lockstep.proofs.Beginning.{begun_unread, begun_work}
use Rattle.sn_engine_lockstep.proofs.driver.Driver.begin.Goals as goal

pub returns-clause-work : goal.returns-clause-work
returns-clause-work c =
    let s = c.args.self.now in
    let kept = kept_in s.engine.t.queries c.args.last.now c.args.window in
    let sources = c.as_slice.result.now in
    ok_then (Begins kept sources (length sources) s.emitter c.begin_lanes.new.emitter)
    ((tables : Tables) (pieces : List Placed) → s.sources ≡ map source_of pieces → AreIdle s.engine.t.queries tables pieces s.emitter s.engine.lanes.items → AreAtWork s.engine.t.queries tables pieces kept [] c.begin_lanes.new.emitter s.engine.lanes.items)
    c.begin_lanes.result
    (λ b tables pieces are idle. begun_work s.engine.t.queries tables pieces kept sources s.emitter c.begin_lanes.new.emitter s.engine.lanes.items (c.as_slice.ensures ∙ are) b idle)
    c.begin_lanes.ensures.begun

pub returns-clause-unread : goal.returns-clause-unread
returns-clause-unread c =
    let s = c.args.self.now in
    let kept = kept_in s.engine.t.queries c.args.last.now c.args.window in
    let sources = c.as_slice.result.now in
    ok_then (Begins kept sources (length sources) s.emitter c.begin_lanes.new.emitter) (AreUnread c.begin_lanes.new.emitter) c.begin_lanes.result
    (λ b. begun_unread kept sources s.emitter c.begin_lanes.new.emitter (ap length c.as_slice.ensures ∙ c.requires.many) b)
    c.begin_lanes.ensures.begun
