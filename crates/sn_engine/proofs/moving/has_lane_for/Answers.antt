use Rattle.std.proofs.Common.{Option, ap, sym, ◌∙◌, false}
use Rattle.std.specs.Option.{option_map_or}
use Rattle.sn_engine.specs.Intakes.{is_lane}
use Rattle.sn_engine.specs.Moving.{fits_lane, name_of}
use Rattle.sn_engine.specs.declared.intake.Intake.{Intake}
use Rattle.sn_engine.proofs.Firsts.{found_first, found_none}
use Rattle.sn_engine.proofs.moving.has_lane_for.Goals as goal

pub returns-in-Some : goal.returns-in-Some
returns-in-Some c =
    let x = c.args.x.now in
    let first = sym c.place_of.ensures ∙ c.in-Some.is in
    c.fits_lane.ensures
    ∙ sym (ap (λ (o : Option Intake). option_map_or (fits_lane c.args.given.now.queries x c.args.t.now.queries) o false)
    (found_first (is_lane (name_of x)) c.args.lanes.now c.in-Some.at c.index-lanes-at.result first c.index-lanes-at.is))

pub returns-in-None : goal.returns-in-None
returns-in-None c =
    let x = c.args.x.now in
    sym (ap (λ (o : Option Intake). option_map_or (fits_lane c.args.given.now.queries x c.args.t.now.queries) o false)
    (found_none (is_lane (name_of x)) c.args.lanes.now (sym c.place_of.ensures ∙ c.in-None.is)))
