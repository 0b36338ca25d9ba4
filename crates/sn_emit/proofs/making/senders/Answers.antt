use Rattle.std.proofs.Common.{◌≤◌, subst, sym}
use Rattle.sn_emit.specs.declared.tables.Tables.{Tables}
use Rattle.sn_emit.proofs.PlanFacts.{all_can, few_entries}
use Rattle.sn_emit.proofs.making.senders.Goals as goal

pub senders_of-requires-clause-some_depth : goal.senders_of-requires-clause-some_depth
senders_of-requires-clause-some_depth c = subst (λ (tables : Tables). 1 ≤ tables.depth) (sym c.of-tables.ensures) c.requires.switch.chain.0

pub senders_of-requires-clause-most_depth : goal.senders_of-requires-clause-most_depth
senders_of-requires-clause-most_depth c = subst (λ (tables : Tables). tables.depth ≤ 4) (sym c.of-tables.ensures) c.requires.switch.chain.1

pub senders_of-requires-clause-few : goal.senders_of-requires-clause-few
senders_of-requires-clause-few c =
    let t = c.args.t.now in
    few_entries t.window_us t.queries c.args.s.now t.typed c.requires.switch c.args.plan.now.entries c.requires.fits.paths

pub senders_of-requires-clause-can : goal.senders_of-requires-clause-can
senders_of-requires-clause-can c =
    let t = c.args.t.now in
    all_can t.window_us t.queries c.args.s.now t.typed c.requires.switch c.args.plan.now.entries c.requires.fits.paths c.requires.fits.pieces
