use Rattle.sn_command_training.proofs.TakeLemmas.{records_judged}
use Rattle.sn_command_training.proofs.taking.Taking.finish.Goals as goal

pub returns-in_ok-finish-in-Header-clause-judged : goal.returns-in_ok-finish-in-Header-clause-judged
returns-in_ok-finish-in-Header-clause-judged c = λ window file taken.
    records_judged window file c.args.self.held.items c.args.self.found c.args.self.collected c.in_ok-finish-in-Header.field-0 c.in-Header.is taken (λ seen is. c.in_ok-finish-in-Header.ensures.all window seen is)
