use Rattle.std.proofs.Common.{◌+◌, None, ap, sym, subst, ◌∙◌, arith}
use Rattle.std.specs.List.{AllByRecursion}
use Rattle.sn_core.specs.declared.supply.Supply.TheVariants.{Numbered}
use Rattle.sn_core_drive.specs.Schedules.{answers_in}
use Rattle.sn_out.specs.Text.{IsPartOf}
use Rattle.sn_types.specs.declared.answers.Answers.{Answers}
use Rattle.sn_engine_lockstep.specs.Known.{last_from}
use Rattle.sn_command_run.proofs.HandLemmas.{Found, answers_fit, answers_right, none_reported, one_reported, pass_found, pass_hand, used_earlier, used_wants}
use Rattle.sn_command_run.proofs.along.Along.pass_window.Goals as goal

pub advance-requires-clause-stands : goal.advance-requires-clause-stands
advance-requires-clause-stands g c = c.requires.hand.3.fed.stands

pub advance-requires-clause-wants : goal.advance-requires-clause-wants
advance-requires-clause-wants g c = used_wants c.args.at_hand c.requires.hand.1 (g.M.Machine.state c.args.self.now.machine) c.requires.hand.3.used

pub advance-requires-clause-rises : goal.advance-requires-clause-rises
advance-requires-clause-rises g c =
    let above = c.requires.above in
    used_earlier c.args.at_hand c.args.number c.requires.hand.1 c.args.tuple.now (g.M.Machine.state c.args.self.now.machine) (omega (arith, above)) c.requires.hand.3.used

pub advance-requires-clause-taken : goal.advance-requires-clause-taken
advance-requires-clause-taken g c = c.requires.hand.3.fed.taken

pub unreachable-requires : goal.unreachable-requires
unreachable-requires g c =
    let h = c.requires.hand in
    let e = c.in_ok-notes.ensures in
    let found : Found g.M.Machine c.args.self.now (Numbered c.args.number c.args.tuple.now) (answers_in c.in_ok-notes.notes) c.advance.new.machine = record { works = c.advance.ensures.works; stands = e.stands; taken = e.taken; moves = e.due } in
    let one = pass_found g.M.Machine c.args.self.now h.0 c.args.at_hand h.1 h.2 h.3 c.args.number c.args.tuple.now c.requires.above c.widths.ensures _ c.advance.new.machine found e.afterwards in
    none_reported _ _ _ (c.last_reported.ensures ∙ ap (last_from None) c.up_to_answers.ensures) c.in_default.is one

pub returns-clause-answers : goal.returns-clause-answers
returns-clause-answers g c = λ closed tuples some h.
    let e = c.in_ok-notes.ensures in
    let found : Found g.M.Machine c.args.self.now (Numbered c.args.number c.args.tuple.now) (answers_in c.in_ok-notes.notes) c.advance.new.machine = record { works = c.advance.ensures.works; stands = e.stands; taken = e.taken; moves = e.due } in
    let one = pass_found g.M.Machine c.args.self.now closed c.args.at_hand tuples some h c.args.number c.args.tuple.now c.requires.above c.widths.ensures _ c.advance.new.machine found e.afterwards in
    one_reported _ _ _ _ (c.last_reported.ensures ∙ ap (last_from None) c.up_to_answers.ensures) c.in-Some.is one ∙ answers_right g.M.Machine c.args.self.now closed c.args.at_hand tuples some h

pub returns-clause-fit : goal.returns-clause-fit
returns-clause-fit g c =
    let h = c.requires.hand in
    let e = c.in_ok-notes.ensures in
    let found : Found g.M.Machine c.args.self.now (Numbered c.args.number c.args.tuple.now) (answers_in c.in_ok-notes.notes) c.advance.new.machine = record { works = c.advance.ensures.works; stands = e.stands; taken = e.taken; moves = e.due } in
    let one = pass_found g.M.Machine c.args.self.now h.0 c.args.at_hand h.1 h.2 h.3 c.args.number c.args.tuple.now c.requires.above c.widths.ensures _ c.advance.new.machine found e.afterwards in
    subst (λ (answers : Answers). AllByRecursion (IsPartOf c.args.self.now.typed.queries) answers.parts) (sym (one_reported _ _ _ _ (c.last_reported.ensures ∙ ap (last_from None) c.up_to_answers.ensures) c.in-Some.is one))
    (answers_fit g.M.Machine c.args.self.now h.0 c.args.at_hand h.1 h.2 h.3 g.met.M.Machine.tells)

pub returns-clause-begun : goal.returns-clause-begun
returns-clause-begun g c = λ closed tuples some h.
    let e = c.in_ok-notes.ensures in
    let found : Found g.M.Machine c.args.self.now (Numbered c.args.number c.args.tuple.now) (answers_in c.in_ok-notes.notes) c.advance.new.machine = record { works = c.advance.ensures.works; stands = e.stands; taken = e.taken; moves = e.due } in
    let one = pass_found g.M.Machine c.args.self.now closed c.args.at_hand tuples some h c.args.number c.args.tuple.now c.requires.above c.widths.ensures _ c.advance.new.machine found e.afterwards in
    let same = one_reported _ _ _ _ (c.last_reported.ensures ∙ ap (last_from None) c.up_to_answers.ensures) c.in-Some.is one in
    pass_hand g.M.Machine c.args.self.now closed c.args.at_hand tuples some h c.args.number c.args.tuple.now c.requires.above c.widths.ensures _ c.advance.new.machine found e.afterwards c.advance.new.draws _
    (c.in_ok-self.ensures ∙ ap (λ (answers : Answers). c.args.self.now.emitted + answers.emitted) same)
