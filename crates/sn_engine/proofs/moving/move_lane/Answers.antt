use Rattle.std.proofs.Common.{◌≡◌, Bool, None, position, ap, sym, ◌∙◌}
use Rattle.std.proofs.lemmas.Bool.{false≢true}
use Rattle.sn_engine.specs.Intakes.{is_lane}
use Rattle.sn_engine.specs.Moving.{name_of}
use Rattle.sn_engine.specs.declared.intake.Intake.{Intake}
use Rattle.sn_engine.proofs.Firsts.{found_none}
use Rattle.sn_engine.proofs.Moves.{none_any}
use Rattle.sn_engine.proofs.moving.move_lane.Goals as goal

pub unreachable-requires : goal.unreachable-requires
unreachable-requires c =
    let test : Intake → Bool = is_lane (name_of c.args.x.now) in
    let lanes = c.args.lanes.now.items in
    let none : position test lanes ≡ None = ap (position test) (sym c.deref.ensures.value) ∙ sym c.place_of.ensures ∙ c.in_default.is in
    false≢true (sym (none_any test lanes (found_none test lanes none)) ∙ c.requires.lane)
