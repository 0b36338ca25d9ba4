use Rattle.std.proofs.Common.{[]}
use Rattle.sn_command_emit.proofs.reporter.Reporter.make.Goals as goal

pub returns-clause-begun : goal.returns-clause-begun
returns-clause-begun c = c.in_ok-begin.ensures.begun [] c.in_ok-reporter.ensures.idle (tt, tt)
