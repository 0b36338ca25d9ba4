use Rattle.std.proofs.Common.{◌≡◌, List, ap, ◌∙◌, slice_set, map}
use Rattle.sn_base.specs.Changed.{with_first}
use Rattle.sn_engine.specs.Intakes.{is_lane}
use Rattle.sn_engine.specs.Moving.{name_of, with_items}
use Rattle.sn_engine.specs.Turns.{turn}
use Rattle.sn_engine.specs.declared.intake.Intake.{Intake}
use Rattle.sn_report.specs.Items.{Item}
use Rattle.sn_engine.proofs.Firsts.{ok_then, set_first}
use Rattle.sn_engine.proofs.moving.move_to.Goals as goal

pub returns-clause-ok : goal.returns-clause-ok
returns-clause-ok c =
    let lanes : List Intake = c.args.lanes.now.items in
    let test = is_lane (name_of c.args.x.now) in
    let items : List Item = map (turn c.args.tag) c.args.x.now.items in
    let before : Intake = c.index_mut.result.now in
    ok_then (c.append.new.self ≡ with_items c.turn.new.self before) (slice_set lanes c.args.at c.append.new.self ≡ with_first test (with_items items) lanes) c.append.result
    (λ is. set_first test (with_items items) lanes c.args.at before c.append.new.self c.requires
    (is ∙ ap (λ (more : List Item). with_items more before) c.turn.ensures ∙ ap (with_items items) c.index_mut.ensures.value)) c.append.ensures.ok
