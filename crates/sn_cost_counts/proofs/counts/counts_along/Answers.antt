use Rattle.std.proofs.Common.{◌≡◌, map, cond, Some, None, List, ◌∙◌, arith}
use Rattle.std.specs.Option.{option_map}
use Rattle.sn_base.specs.Groups.{Row}
use Rattle.sn_base.specs.Operators.{through}
use Rattle.sn_types.specs.Values.{op_at}
use Rattle.sn_cost_counts.proofs.Branching.{started}
use Rattle.sn_cost_counts.proofs.Going.{if_ok}
use Rattle.sn_cost_counts.proofs.Unsplit.{map_given}
use Rattle.sn_cost_counts.proofs.counts.counts_along.Goals as goal

pub counts_on-requires-clause-go : goal.counts_on-requires-clause-go
counts_on-requires-clause-go g c = let a = c.args in (0, omega (arith, c.requires.can.short), started a.steps.now.level a.steps.now.ops.now a.rows c.requires.can.few c.requires.can.takes c.requires.can.fits)

pub counts_on-requires-clause-fits : goal.counts_on-requires-clause-fits
counts_on-requires-clause-fits g c = c.requires.can.fits_all

pub returns-clause-unsplit : goal.returns-clause-unsplit
returns-clause-unsplit g c =
    let a = c.args in
    let f : List Row → List Row = through (map (op_at a.steps.now.level) a.steps.now.ops.now) in
    if_ok c.counts_on.result (λ along. along.unsplit ≡ option_map f (cond a.asked (Some a.rows) None)) _ (λ along is. is ∙ map_given a.asked f a.rows) c.counts_on.ensures.unsplit
