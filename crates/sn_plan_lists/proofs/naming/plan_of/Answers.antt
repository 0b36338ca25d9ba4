use Rattle.std.proofs.Common.{◌≡◌, sym, subst}
use Rattle.sn_plan_fit.specs.Fits.{Fits}
use Rattle.sn_plan_fit.proofs.Placings.{placing_by_gaps}
use Rattle.sn_plan_lists.specs.Chosen.{plan_at}
use Rattle.sn_plan_lists.proofs.NamedPieces.{if_ok_also}
use Rattle.sn_plan_lists.proofs.TypedBounds.{all_rising}
use Rattle.sn_plan_lists.proofs.Wholes.{lists_name_plans}
use Rattle.sn_plan_lists.proofs.naming.plan_of.Goals as goal

pub returns-clause-fits : goal.returns-clause-fits
returns-clause-fits c = λ entry is.
    let s = c.args.s.now in
    let queries = c.args.t.now.queries in
    let named = lists_name_plans s entry placing_by_gaps queries c.args.choices.now (all_rising s c.args.t.now.window_us queries c.args.t.now.typed c.requires) is in
    if_ok_also (λ plan. plan.entries ≡ plan_at s queries c.args.choices.now) (λ plan. Fits queries s plan.entries) c.entries_at.result (λ plan e. subst (Fits queries s) (sym e) named.fits) c.entries_at.ensures
