use Rattle.std.proofs.Common.{◌∙◌, arith}
use Rattle.sn_core.specs.declared.supply.Supply.TheVariants.{Numbered}
use Rattle.sn_command_run.proofs.HandLemmas.{given_hand, used_earlier, used_wants}
use Rattle.sn_command_run.proofs.AtWork.{Came, took}
use Rattle.sn_command_run.proofs.traced.Traced.take_tuple.Goals as goal

pub advance-requires-clause-stands : goal.advance-requires-clause-stands
advance-requires-clause-stands g c = c.requires.2.along.fed.stands

pub advance-requires-clause-wants : goal.advance-requires-clause-wants
advance-requires-clause-wants g c = used_wants c.args.number c.requires.1 (g.M.Machine.state c.args.self.now.along.machine) c.requires.2.along.used

pub advance-requires-clause-rises : goal.advance-requires-clause-rises
advance-requires-clause-rises g c = used_earlier c.args.number c.args.number c.requires.1 c.args.tuple.now (g.M.Machine.state c.args.self.now.along.machine) (omega arith) c.requires.2.along.used

pub advance-requires-clause-taken : goal.advance-requires-clause-taken
advance-requires-clause-taken g c = c.requires.2.along.fed.taken

pub returns-clause-given : goal.returns-clause-given
returns-clause-given g c = λ closed tuples h.
    let e = c.in_ok-notes.ensures in
    let came : Came g.M.Machine c.args.self.now closed c.args.number tuples h (Numbered c.args.number c.args.tuple.now) c.advance.new.machine c.advance.new.draws.number c.follow.new.lines.items c.in_ok-follow.field-0.items c.in_ok-notes.notes = record { run = e.run; seen = c.as_slice.result.now; same = c.as_slice.ensures ∙ c.in_ok-all.ensures; lines = c.in_ok-follow.ensures } in
    record {
      along = given_hand g.M.Machine c.args.self.now.along closed c.args.number tuples c.args.tuple.now _ c.advance.new.machine c.advance.new.draws h.along c.widths.ensures
          (record { works = c.advance.ensures.works; stands = e.stands; taken = e.taken; moves = e.due }) e.afterwards;
      works = c.advance.ensures.works ∙ h.works;
      watched = took g.M.Machine c.args.self.now closed c.args.number tuples h c.args.tuple.now c.advance.new.machine c.advance.new.draws.number c.follow.new.lines.items c.in_ok-follow.field-0.items c.in_ok-notes.notes came;
    }
