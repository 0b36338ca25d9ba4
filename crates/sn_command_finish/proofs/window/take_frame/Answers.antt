use Rattle.std.proofs.Common.{◌≡◌, ◌≤◌, ◌+◌, ap, arith}
use Rattle.std.proofs.lemmas.Result.{err_from_is_err_and}
use Rattle.sn_engine.specs.Intakes.{after_frame, total}
use Rattle.sn_engine.specs.Taking.{take_fault}
use Rattle.sn_command.specs.Desks.{world}
use Rattle.sn_command_finish.specs.declared.tally.Tally.{Tally}
use Rattle.sn_command_finish.specs.Standings.{standing}
use Rattle.sn_command_finish.specs.Taken.{Standing, close_ended}
use Rattle.sn_command_finish.proofs.FrameLemmas.{none_is, one_more, take_stops, weaker}
use Rattle.sn_command_finish.proofs.window.take_frame.Goals as goal

pub returns-in_err-take-clause-runs : goal.returns-in_err-take-clause-runs
returns-in_err-take-clause-runs g c =
    let e = c.args.tally.engine in
    let s : Standing = standing c.args.tally in
    let frame = c.args.frame.now in
    let p = err_from_is_err_and c.from_residual.result c.from_residual.ensures.1 in
    rw (p.1, p.2) (take_stops c.args.at (take_fault e.t.queries e.lanes.items e.closed frame) (close_ended e.t.queries (record s { lanes = after_frame e.lanes.items frame })) c.in_err-take.field-0.0 (world g.I.Inputs g.O.Sink c.args.desk.now) c.in_err-take.ensures.verdict)

pub close_ended-requires-clause-emitted : goal.close_ended-requires-clause-emitted
close_ended-requires-clause-emitted g c =
    let e = c.args.tally.engine in
    let more = one_more e.t.queries e.lanes.items e.closed c.args.frame.now (none_is (take_fault e.t.queries e.lanes.items e.closed c.args.frame.now) c.args.at c.in_ok-take.ensures.verdict) in
    let same : total c.take.new.engine.lanes.items ≡ total (after_frame e.lanes.items c.args.frame.now) = ap total c.in_ok-take.ensures.taken in
    omega (arith, more, same, c.requires.emitted)

pub returns-clause-emitted : goal.returns-clause-emitted
returns-clause-emitted g c =
    let e = c.args.tally.engine in
    let more = one_more e.t.queries e.lanes.items e.closed c.args.frame.now (none_is (take_fault e.t.queries e.lanes.items e.closed c.args.frame.now) c.args.at c.in_ok-take.ensures.verdict) in
    let same : total c.take.new.engine.lanes.items ≡ total (after_frame e.lanes.items c.args.frame.now) = ap total c.in_ok-take.ensures.taken in
    weaker (λ (after : Tally). after.emitted + total after.engine.lanes.items ≤ c.args.tally.emitted + total c.take.new.engine.lanes.items) (λ (after : Tally). after.emitted + total after.engine.lanes.items ≤ c.args.tally.emitted + total e.lanes.items + 1) c.close_ended.result
    (λ after h. omega (arith, h, more, same)) c.close_ended.ensures.emitted
