use Rattle.std.proofs.Common.{◌+◌, ap, sym, subst, ◌∙◌, None, List}
use Rattle.std.specs.List.{AllByRecursion}
use Rattle.sn_core.specs.declared.supply.Supply.TheVariants.{End}
use Rattle.sn_core_drive.specs.Schedules.{answers_in}
use Rattle.sn_core_drive.specs.declared.note.Note.{Note}
use Rattle.sn_engine_lockstep.specs.Known.{last_from}
use Rattle.sn_out.specs.Text.{IsPartOf}
use Rattle.sn_types.specs.declared.answers.Answers.{Answers}
use Rattle.sn_command_run.proofs.HandLemmas.{Found, answers_fit, answers_right, end_found, end_idle, none_reported, one_reported, used_end, used_wants}
use Rattle.sn_command_run.proofs.AtWork.{Came, ended, ended_front}
use Rattle.sn_command_run.proofs.traced.Traced.close_window.Goals as goal

pub advance-requires-clause-stands : goal.advance-requires-clause-stands
advance-requires-clause-stands g c = c.requires.3.along.fed.stands

pub advance-requires-clause-wants : goal.advance-requires-clause-wants
advance-requires-clause-wants g c = used_wants c.args.number c.requires.1 (g.M.Machine.state c.args.self.now.along.machine) c.requires.3.along.used

pub advance-requires-clause-rises : goal.advance-requires-clause-rises
advance-requires-clause-rises g c = used_end c.args.number c.requires.1 (g.M.Machine.state c.args.self.now.along.machine) c.requires.3.along.used

pub advance-requires-clause-taken : goal.advance-requires-clause-taken
advance-requires-clause-taken g c = c.requires.3.along.fed.taken

pub unreachable-requires : goal.unreachable-requires
unreachable-requires g c =
    let h = c.requires in
    let e = c.in_ok-notes.ensures in
    let found : Found g.M.Machine c.args.self.now.along End (answers_in c.in_ok-notes.notes) c.advance.new.machine = record { works = c.advance.ensures.works; stands = e.stands; taken = e.taken; moves = e.due } in
    none_reported _ _ _ (c.last_reported.ensures ∙ ap (λ (notes : List Note). last_from None (answers_in notes)) c.in_ok-all.ensures) c.in_default.is (end_found g.M.Machine c.args.self.now.along h.0 c.args.number h.1 h.2 h.3.along (g.met.M.Machine.lawful c.args.self.now.along.machine) _ c.advance.new.machine found e.afterwards)

pub returns-clause-answers : goal.returns-clause-answers
returns-clause-answers g c = λ closed tuples some h.
    let e = c.in_ok-notes.ensures in
    let found : Found g.M.Machine c.args.self.now.along End (answers_in c.in_ok-notes.notes) c.advance.new.machine = record { works = c.advance.ensures.works; stands = e.stands; taken = e.taken; moves = e.due } in
    one_reported _ _ _ _ (c.last_reported.ensures ∙ ap (λ (notes : List Note). last_from None (answers_in notes)) c.in_ok-all.ensures) c.in-Some.is (end_found g.M.Machine c.args.self.now.along closed c.args.number tuples some h.along (g.met.M.Machine.lawful c.args.self.now.along.machine) _ c.advance.new.machine found e.afterwards)
    ∙ answers_right g.M.Machine c.args.self.now.along closed c.args.number tuples some h.along

pub returns-clause-fit : goal.returns-clause-fit
returns-clause-fit g c =
    let h = c.requires in
    let e = c.in_ok-notes.ensures in
    let found : Found g.M.Machine c.args.self.now.along End (answers_in c.in_ok-notes.notes) c.advance.new.machine = record { works = c.advance.ensures.works; stands = e.stands; taken = e.taken; moves = e.due } in
    subst (λ (answers : Answers). AllByRecursion (IsPartOf c.args.self.now.along.typed.queries) answers.parts)
    (sym (one_reported _ _ _ _ (c.last_reported.ensures ∙ ap (λ (notes : List Note). last_from None (answers_in notes)) c.in_ok-all.ensures) c.in-Some.is (end_found g.M.Machine c.args.self.now.along h.0 c.args.number h.1 h.2 h.3.along (g.met.M.Machine.lawful c.args.self.now.along.machine) _ c.advance.new.machine found e.afterwards)))
    (answers_fit g.M.Machine c.args.self.now.along h.0 c.args.number h.1 h.2 h.3.along g.met.M.Machine.tells)

pub returns-clause-closed : goal.returns-clause-closed
returns-clause-closed g c = λ closed tuples some h.
    let e = c.in_ok-notes.ensures in
    let found : Found g.M.Machine c.args.self.now.along End (answers_in c.in_ok-notes.notes) c.advance.new.machine = record { works = c.advance.ensures.works; stands = e.stands; taken = e.taken; moves = e.due } in
    let same = one_reported _ _ _ _ (c.last_reported.ensures ∙ ap (λ (notes : List Note). last_from None (answers_in notes)) c.in_ok-all.ensures) c.in-Some.is (end_found g.M.Machine c.args.self.now.along closed c.args.number tuples some h.along (g.met.M.Machine.lawful c.args.self.now.along.machine) _ c.advance.new.machine found e.afterwards) in
    let came : Came g.M.Machine c.args.self.now closed c.args.number tuples h End c.advance.new.machine c.advance.new.draws.number c.follow.new.lines.items c.in_ok-lines.lines.items c.in_ok-notes.notes = record { run = e.run; seen = c.as_slice.result.now; same = c.as_slice.ensures ∙ c.in_ok-all.ensures; lines = c.in_ok-lines.ensures } in
    record {
      along = end_idle g.M.Machine c.args.self.now.along closed c.args.number tuples some h.along (g.met.M.Machine.lawful c.args.self.now.along.machine) _ c.advance.new.machine found e.afterwards c.advance.new.draws _
          (c.in_ok-self.ensures ∙ ap (λ (answers : Answers). c.args.self.now.along.emitted + answers.emitted) same);
      lines = ended g.M.Machine c.args.self.now closed c.args.number tuples h some c.advance.new.machine c.advance.new.draws.number c.follow.new.lines.items c.in_ok-lines.lines.items c.in_ok-notes.notes came;
    }

pub returns-clause-lines : goal.returns-clause-lines
returns-clause-lines g c = λ closed tuples some h.
    let e = c.in_ok-notes.ensures in
    let came : Came g.M.Machine c.args.self.now closed c.args.number tuples h End c.advance.new.machine c.advance.new.draws.number c.follow.new.lines.items c.in_ok-lines.lines.items c.in_ok-notes.notes = record { run = e.run; seen = c.as_slice.result.now; same = c.as_slice.ensures ∙ c.in_ok-all.ensures; lines = c.in_ok-lines.ensures } in
    ended_front g.M.Machine c.args.self.now closed c.args.number tuples h some c.advance.new.machine c.advance.new.draws.number c.follow.new.lines.items c.in_ok-lines.lines.items c.in_ok-notes.notes came
