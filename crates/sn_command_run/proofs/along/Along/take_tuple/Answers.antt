use Rattle.std.proofs.Common.{arith}
use Rattle.sn_command_run.proofs.HandLemmas.{given_hand, used_earlier, used_wants}
use Rattle.sn_command_run.proofs.along.Along.take_tuple.Goals as goal

pub advance-requires-clause-stands : goal.advance-requires-clause-stands
advance-requires-clause-stands g c = c.requires.2.fed.stands

pub advance-requires-clause-wants : goal.advance-requires-clause-wants
advance-requires-clause-wants g c = used_wants c.args.number c.requires.1 (g.M.Machine.state c.args.self.now.machine) c.requires.2.used

pub advance-requires-clause-rises : goal.advance-requires-clause-rises
advance-requires-clause-rises g c = used_earlier c.args.number c.args.number c.requires.1 c.args.tuple.now (g.M.Machine.state c.args.self.now.machine) (omega arith) c.requires.2.used

pub advance-requires-clause-taken : goal.advance-requires-clause-taken
advance-requires-clause-taken g c = c.requires.2.fed.taken

pub returns-clause-given : goal.returns-clause-given
returns-clause-given g c = λ closed tuples h.
    let e = c.in_ok-advance.ensures in
    given_hand g.M.Machine c.args.self.now closed c.args.number tuples c.args.tuple.now _ c.advance.new.machine c.advance.new.draws h c.widths.ensures
    (record { works = c.advance.ensures.works; stands = e.stands; taken = e.taken; moves = e.due }) e.afterwards
