use Rattle.std.proofs.Common.{◌+◌, ap, sym, subst, ◌∙◌, arith, None, List}
use Rattle.std.specs.List.{AllByRecursion}
use Rattle.sn_core.specs.declared.supply.Supply.TheVariants.{Numbered}
use Rattle.sn_core_drive.specs.Schedules.{answers_in}
use Rattle.sn_core_drive.specs.declared.note.Note.{Note}
use Rattle.sn_engine_lockstep.specs.Known.{last_from}
use Rattle.sn_out.specs.Text.{IsPartOf}
use Rattle.sn_types.specs.declared.answers.Answers.{Answers}
use Rattle.sn_command_run.proofs.HandLemmas.{Found, answers_fit, answers_right, none_reported, one_reported, pass_found, pass_hand, used_earlier, used_wants}
use Rattle.sn_command_run.proofs.AtWork.{Came, passed, passed_front}
use Rattle.sn_command_run.proofs.traced.Traced.pass_window.Goals as goal

pub advance-requires-clause-stands : goal.advance-requires-clause-stands
advance-requires-clause-stands g c = c.requires.hand.3.along.fed.stands

pub advance-requires-clause-wants : goal.advance-requires-clause-wants
advance-requires-clause-wants g c = used_wants c.args.at_hand c.requires.hand.1 (g.M.Machine.state c.args.self.now.along.machine) c.requires.hand.3.along.used

pub advance-requires-clause-rises : goal.advance-requires-clause-rises
advance-requires-clause-rises g c =
    let above = c.requires.above in
    used_earlier c.args.at_hand c.args.number c.requires.hand.1 c.args.tuple.now (g.M.Machine.state c.args.self.now.along.machine) (omega (arith, above)) c.requires.hand.3.along.used

pub advance-requires-clause-taken : goal.advance-requires-clause-taken
advance-requires-clause-taken g c = c.requires.hand.3.along.fed.taken

pub unreachable-requires : goal.unreachable-requires
unreachable-requires g c =
    let h = c.requires.hand in
    let e = c.in_ok-notes.ensures in
    let found : Found g.M.Machine c.args.self.now.along (Numbered c.args.number c.args.tuple.now) (answers_in c.in_ok-notes.notes) c.advance.new.machine = record { works = c.advance.ensures.works; stands = e.stands; taken = e.taken; moves = e.due } in
    let one = pass_found g.M.Machine c.args.self.now.along h.0 c.args.at_hand h.1 h.2 h.3.along c.args.number c.args.tuple.now c.requires.above c.widths.ensures _ c.advance.new.machine found e.afterwards in
    none_reported _ _ _ (c.last_reported.ensures ∙ ap (λ (notes : List Note). last_from None (answers_in notes)) c.in_ok-all.ensures) c.in_default.is one

pub returns-clause-answers : goal.returns-clause-answers
returns-clause-answers g c = λ closed tuples some h.
    let e = c.in_ok-notes.ensures in
    let found : Found g.M.Machine c.args.self.now.along (Numbered c.args.number c.args.tuple.now) (answers_in c.in_ok-notes.notes) c.advance.new.machine = record { works = c.advance.ensures.works; stands = e.stands; taken = e.taken; moves = e.due } in
    let one = pass_found g.M.Machine c.args.self.now.along closed c.args.at_hand tuples some h.along c.args.number c.args.tuple.now c.requires.above c.widths.ensures _ c.advance.new.machine found e.afterwards in
    one_reported _ _ _ _ (c.last_reported.ensures ∙ ap (λ (notes : List Note). last_from None (answers_in notes)) c.in_ok-all.ensures) c.in-Some.is one ∙ answers_right g.M.Machine c.args.self.now.along closed c.args.at_hand tuples some h.along

pub returns-clause-fit : goal.returns-clause-fit
returns-clause-fit g c =
    let h = c.requires.hand in
    let e = c.in_ok-notes.ensures in
    let found : Found g.M.Machine c.args.self.now.along (Numbered c.args.number c.args.tuple.now) (answers_in c.in_ok-notes.notes) c.advance.new.machine = record { works = c.advance.ensures.works; stands = e.stands; taken = e.taken; moves = e.due } in
    let one = pass_found g.M.Machine c.args.self.now.along h.0 c.args.at_hand h.1 h.2 h.3.along c.args.number c.args.tuple.now c.requires.above c.widths.ensures _ c.advance.new.machine found e.afterwards in
    subst (λ (answers : Answers). AllByRecursion (IsPartOf c.args.self.now.along.typed.queries) answers.parts) (sym (one_reported _ _ _ _ (c.last_reported.ensures ∙ ap (λ (notes : List Note). last_from None (answers_in notes)) c.in_ok-all.ensures) c.in-Some.is one))
    (answers_fit g.M.Machine c.args.self.now.along h.0 c.args.at_hand h.1 h.2 h.3.along g.met.M.Machine.tells)

pub returns-clause-begun : goal.returns-clause-begun
returns-clause-begun g c = λ closed tuples some h.
    let e = c.in_ok-notes.ensures in
    let found : Found g.M.Machine c.args.self.now.along (Numbered c.args.number c.args.tuple.now) (answers_in c.in_ok-notes.notes) c.advance.new.machine = record { works = c.advance.ensures.works; stands = e.stands; taken = e.taken; moves = e.due } in
    let one = pass_found g.M.Machine c.args.self.now.along closed c.args.at_hand tuples some h.along c.args.number c.args.tuple.now c.requires.above c.widths.ensures _ c.advance.new.machine found e.afterwards in
    let same = one_reported _ _ _ _ (c.last_reported.ensures ∙ ap (λ (notes : List Note). last_from None (answers_in notes)) c.in_ok-all.ensures) c.in-Some.is one in
    let came : Came g.M.Machine c.args.self.now closed c.args.at_hand tuples h (Numbered c.args.number c.args.tuple.now) c.advance.new.machine c.advance.new.draws.number c.follow.new.lines.items c.in_ok-lines.lines.items c.in_ok-notes.notes = record { run = e.run; seen = c.as_slice.result.now; same = c.as_slice.ensures ∙ c.in_ok-all.ensures; lines = c.in_ok-lines.ensures } in
    record {
      along = pass_hand g.M.Machine c.args.self.now.along closed c.args.at_hand tuples some h.along c.args.number c.args.tuple.now c.requires.above c.widths.ensures _ c.advance.new.machine found e.afterwards c.advance.new.draws _
          (c.in_ok-self.ensures ∙ ap (λ (answers : Answers). c.args.self.now.along.emitted + answers.emitted) same);
      works = c.advance.ensures.works ∙ h.works;
      watched = passed g.M.Machine c.args.self.now closed c.args.at_hand tuples h some c.args.number c.requires.above c.args.tuple.now c.advance.new.machine c.advance.new.draws.number c.follow.new.lines.items c.in_ok-lines.lines.items c.in_ok-notes.notes came;
    }

pub returns-clause-lines : goal.returns-clause-lines
returns-clause-lines g c = λ closed tuples some h.
    let e = c.in_ok-notes.ensures in
    let came : Came g.M.Machine c.args.self.now closed c.args.at_hand tuples h (Numbered c.args.number c.args.tuple.now) c.advance.new.machine c.advance.new.draws.number c.follow.new.lines.items c.in_ok-lines.lines.items c.in_ok-notes.notes = record { run = e.run; seen = c.as_slice.result.now; same = c.as_slice.ensures ∙ c.in_ok-all.ensures; lines = c.in_ok-lines.ensures } in
    passed_front g.M.Machine c.args.self.now closed c.args.at_hand tuples h some c.args.number c.requires.above c.args.tuple.now c.advance.new.machine c.advance.new.draws.number c.follow.new.lines.items c.in_ok-lines.lines.items c.in_ok-notes.notes came
