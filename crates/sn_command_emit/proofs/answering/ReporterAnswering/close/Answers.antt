use Rattle.sn_command_emit.proofs.answering.ReporterAnswering.close.Goals as goal

pub returns-clause-closed : goal.returns-clause-closed
returns-clause-closed c = λ closed tuples some h. c.in_ok-block.ensures.closed closed tuples h
