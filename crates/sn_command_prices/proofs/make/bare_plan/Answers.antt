use Rattle.std.proofs.Common.{subst, sym}
use Rattle.sn_plan_fit.specs.Fits.{Fits}
use Rattle.sn_plan_lists.proofs.TypedBounds.{all_rising}
use Rattle.sn_command_prices.proofs.Bare.{bare_fits}
use Rattle.sn_command_prices.proofs.make.bare_plan.Goals as goal

pub returns : goal.returns
returns c =
    subst (Fits c.args.t.now.queries c.args.s.now) (sym c.in_ok-plan.ensures.plan)
    (bare_fits c.args.s.now c.args.t.now.queries (all_rising c.args.s.now c.args.t.now.window_us c.args.t.now.queries c.args.t.now.typed c.requires))
