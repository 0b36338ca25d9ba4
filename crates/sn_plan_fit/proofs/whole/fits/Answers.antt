use Rattle.sn_plan_fit.proofs.FitLaws.{fits_decided}
use Rattle.sn_plan_fit.proofs.whole.fits.Goals as goal

pub returns-clause-fits : goal.returns-clause-fits
returns-clause-fits c = fits_decided c.checked.result c.args.t.now.queries c.args.s.now c.args.plan.now.entries c.requires.stages.0 c.checked.ensures
