use Rattle.std.proofs.Common.{◌∙◌}
use Rattle.sn_engine_many.proofs.Switching.{still_begins}
use Rattle.sn_engine_many.proofs.switches.give_one.Goals as goal

pub returns-clause-can : goal.returns-clause-can
returns-clause-can c =
    let e = c.in_ok-packet.ensures in
    record { begins = still_begins c.args.switch.now c.packet.new.self e.sources e.count e.queries c.requires.begins; unread = e.unread }

pub returns-clause-work : goal.returns-clause-work
returns-clause-work c = λ queries tables pieces kept tuples w.
    let e = c.in_ok-packet.ensures in
    record {
      queries_are = e.queries ∙ w.queries_are;
      sources = e.sources ∙ w.sources;
      lanes = e.lanes queries tables pieces w.lanes;
      work = e.work queries tables pieces kept tuples w.work;
    }
