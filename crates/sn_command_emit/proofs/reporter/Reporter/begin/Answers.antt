use Rattle.sn_engine_lockstep.proofs.Driving.{known_of}
use Rattle.sn_command_emit.proofs.DriverLemmas.{on_four}
use Rattle.sn_command_emit.proofs.StateLemmas.{begin_hand}
use Rattle.sn_command_emit.proofs.reporter.Reporter.begin.Goals as goal

pub begin-requires-clause-known : goal.begin-requires-clause-known
begin-requires-clause-known c = let a = c.args.self.now in known_of a.typed.queries a.tables a.plan.entries a.driver c.requires.1.driver

pub returns-clause-begun : goal.returns-clause-begun
returns-clause-begun c =
    let e = c.begin.ensures in
    on_four c.begin.result e.work e.unread e.lanes e.count
    (λ work unread lanes count closed idle rising. begin_hand c.args.self.now c.begin.new.self c.args.number closed idle rising work unread lanes count e.queries e.sources e.closed e.prefixes)
