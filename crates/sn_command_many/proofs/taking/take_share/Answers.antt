use Rattle.std.proofs.Common.{refl}
use Rattle.sn_command_many.proofs.GiveLemmas.{share_taken, share_widths, taking_more}
use Rattle.sn_command_many.proofs.taking.take_share.Goals as goal

pub tuples-preserved : goal.tuples-preserved
tuples-preserved c =
    let at = c.tuples in
    let e = c.in-Some.ensures in
    let p = c.in_ok-packet.ensures in
    taking_more c.args.switch c.args.number c.args.many.now at.many c.args.share.now at.share at.invariant c.packet.new.self c.take.new.self c.in-Some.tuple e.some e.sound e.ending c.widths.ensures
    (record { work = λ queries tables entries kept window captures h. p.work queries tables entries kept window captures h; phase = p.phase; last = p.last; count = p.count; queries = p.queries })

pub returns-clause-taken : goal.returns-clause-taken
returns-clause-taken c =
    let at = c.tuples in
    share_taken c.args.switch c.args.number c.args.many.now at.many c.args.share.now at.share at.invariant (c.in_default.ensures.other refl)

pub returns-clause-widths : goal.returns-clause-widths
returns-clause-widths c =
    let at = c.tuples in
    share_widths c.args.switch c.args.number c.args.many.now at.many c.args.share.now at.share at.invariant (c.in_default.ensures.other refl)
