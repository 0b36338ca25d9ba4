use Rattle.std.proofs.Common.{◌∙◌, sym}
use Rattle.sn_plan_fit.proofs.Placings.{placing_by_gaps}
use Rattle.sn_plan_choices.specs.Costs.{entry_in}
use Rattle.sn_plan_lists.proofs.TypedBounds.{all_rising}
use Rattle.sn_plan_lists.proofs.Wholes.{plans_named}
use Rattle.sn_plan_lists.proofs.costing.cost_of.Goals as goal

pub returns-clause-bound : goal.returns-clause-bound
returns-clause-bound c =
    let s = c.args.s.now in
    let queries = c.args.t.now.queries in
    let rising = all_rising s c.args.t.now.window_us queries c.args.t.now.typed c.requires.switch in
    (plans_named s (entry_in c.args.c.now) placing_by_gaps queries c.args.plan.now.entries rising c.requires.fits).one.cost ∙ sym c.cost_along.ensures
