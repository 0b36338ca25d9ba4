use Rattle.std.proofs.Common.{◌≡◌, [], ◌∷◌, List, ap, ◌∙◌, subst, arith}
use Rattle.sn_engine.specs.Intakes.{total}
use Rattle.sn_engine.proofs.Lanes.{nothing_came}
use Rattle.sn_command.specs.Desks.{world}
use Rattle.sn_command.specs.Runs.{Runs}
use Rattle.sn_command.specs.Stages.{Then}
use Rattle.sn_command_capture.specs.Capture.{Whole}
use Rattle.sn_types.specs.declared.typed_query.TypedQuery.{TypedQuery}
use Rattle.sn_command_finish.specs.Reported.{Answered}
use Rattle.sn_command_finish.specs.Taken.{Standing}
use Rattle.sn_command_finish.proofs.TurnLemmas.{begun_is}
use Rattle.sn_command_finish.proofs.reports.answer_reports.Goals as goal

pub take_frames-requires-clause-emitted : goal.take_frames-requires-clause-emitted
take_frames-requires-clause-emitted g c =
    let none : total c.in_ok-engine.engine.lanes.items ≡ 0 = ap total c.in_ok-engine.ensures.lanes ∙ nothing_came c.args.plan.now.entries in
    omega (arith, none)

pub returns : goal.returns
returns g c =
    let here = world g.I.Inputs g.O.Sink c.args.desk.now in
    let there = world g.I.Inputs g.O.Sink c.take_frames.new.desk in
    let name = c.args.name.now in
    let engine = c.in_ok-engine.engine in
    let e = c.in_ok-engine.ensures in
    let made : Standing = record { lanes = engine.lanes.items; closed = engine.closed; kept = engine.kept; windows = 0; emitted = 0 } in
    subst (λ (s : Standing). Runs (name ∷ []) (Then (Whole name) (λ file. Answered c.args.t.now.queries s file)) here c.take_frames.result there) (begun_is c.args.plan.now.entries engine.lanes.items engine.closed engine.kept e.lanes e.closed e.prefixes)
    (subst (λ (qs : List TypedQuery). Runs (name ∷ []) (Then (Whole name) (λ file. Answered qs made file)) here c.take_frames.result there) e.queries c.take_frames.ensures)
