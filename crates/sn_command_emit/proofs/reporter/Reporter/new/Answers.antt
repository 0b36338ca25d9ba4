use Rattle.std.proofs.Common.{refl}
use Rattle.sn_command_emit.proofs.StateLemmas.{made_idle}
use Rattle.sn_command_emit.proofs.reporter.Reporter.new.Goals as goal

pub returns-clause-idle : goal.returns-clause-idle
returns-clause-idle c = let e = c.in_ok-driver.ensures in made_idle _ c.args.switch.now c.of.ensures c.requires.switch c.requires.fits e.queries e.sources e.lanes e.empty e.many e.closed refl c.new-sent.ensures.items
