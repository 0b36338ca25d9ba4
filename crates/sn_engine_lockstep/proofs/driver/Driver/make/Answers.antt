use Rattle.std.proofs.Common.{◌≤◌, subst, sym}
use Rattle.sn_emit.specs.declared.tables.Tables.{Tables}
use Rattle.sn_emit.proofs.PlanFacts.{all_few}
use Rattle.sn_engine_lockstep.proofs.Beginning.{has_shape}
use Rattle.sn_engine_lockstep.proofs.Laws.{plan_made}
use Rattle.sn_engine_lockstep.proofs.driver.Driver.make.Goals as goal

pub of-requires-clause-some_depth : goal.of-requires-clause-some_depth
of-requires-clause-some_depth c = subst (λ (tables : Tables). 1 ≤ tables.depth) (sym c.of-tables.ensures) c.requires.switch.chain.0

pub of-requires-clause-most_depth : goal.of-requires-clause-most_depth
of-requires-clause-most_depth c = subst (λ (tables : Tables). tables.depth ≤ 4) (sym c.of-tables.ensures) c.requires.switch.chain.1

pub of-requires-clause-shape : goal.of-requires-clause-shape
of-requires-clause-shape c = has_shape c.args.t.now.queries c.args.s.now c.args.plan.now.entries c.requires.fits

pub of-requires-clause-most : goal.of-requires-clause-most
of-requires-clause-most c =
    let t = c.args.t.now in
    all_few t.window_us t.queries c.args.s.now t.typed c.requires.switch c.args.plan.now.entries c.requires.fits.paths c.requires.fits.pieces

pub of-requires-clause-can : goal.of-requires-clause-can
of-requires-clause-can c =
    let t = c.args.t.now in
    plan_made t.window_us t.queries c.args.s.now c.args.plan.now.entries t.typed c.requires.switch c.requires.fits
