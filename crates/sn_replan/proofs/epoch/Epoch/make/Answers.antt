use Rattle.sn_replan.proofs.Resting.{made_rests}
use Rattle.sn_replan.proofs.epoch.Epoch.make.Goals as goal

pub returns-clause-rests : goal.returns-clause-rests
returns-clause-rests c = let e = c.in_ok-driver.ensures in let t = c.args.t.now in made_rests t.window_us t.queries c.args.s.now c.args.plan.now.entries c.in_ok-driver.driver t.typed c.requires.switch c.requires.fits e.queries e.sources e.lanes e.empty e.many e.closed
