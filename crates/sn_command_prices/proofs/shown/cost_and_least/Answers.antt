use Rattle.std.proofs.Common.{◌∙◌}
use Rattle.sn_plan_choices.specs.Costs.{entry_in}
use Rattle.sn_plan_lists.proofs.TypedBounds.{all_rising}
use Rattle.sn_command_prices.proofs.Counted.{cost_counted, least_counted}
use Rattle.sn_command_prices.proofs.shown.cost_and_least.Goals as goal

pub returns : goal.returns
returns c = λ given counted.
    let s = c.args.s.now in
    let queries = c.args.t.now.queries in
    let entry = entry_in c.args.c.now in
    let rising = all_rising s c.args.t.now.window_us queries c.args.t.now.typed c.requires.switch in
    (c.cost_of-cost.ensures.cost ∙ cost_counted s queries given entry counted c.args.plan.now rising c.requires.fits, c.in_ok-least.ensures ∙ least_counted s queries given entry counted c.args.p.now)
