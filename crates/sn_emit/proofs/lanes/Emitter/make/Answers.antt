use Rattle.sn_emit.proofs.PlanFacts.{all_can, all_few, few_entries}
use Rattle.sn_emit.proofs.lanes.Emitter.make.Goals as goal

pub of-requires-clause-few : goal.of-requires-clause-few
of-requires-clause-few c =
    let t = c.args.t.now in
    few_entries t.window_us t.queries c.args.s.now t.typed c.requires.switch c.args.plan.now.entries c.requires.fits.paths

pub of-requires-clause-most : goal.of-requires-clause-most
of-requires-clause-most c =
    let t = c.args.t.now in
    all_few t.window_us t.queries c.args.s.now t.typed c.requires.switch c.args.plan.now.entries c.requires.fits.paths c.requires.fits.pieces

pub of-requires-clause-can : goal.of-requires-clause-can
of-requires-clause-can c =
    let t = c.args.t.now in
    all_can t.window_us t.queries c.args.s.now t.typed c.requires.switch c.args.plan.now.entries c.requires.fits.paths c.requires.fits.pieces
