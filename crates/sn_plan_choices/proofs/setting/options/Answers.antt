use Rattle.std.proofs.Common.{sym, subst}
use Rattle.sn_plan_choices.specs.Settings.{IsNarrow}
use Rattle.sn_plan_choices.proofs.Narrow.{typed_narrow}
use Rattle.sn_plan_choices.proofs.setting.options.Goals as goal

pub branch_options-requires-clause-narrow : goal.branch_options-requires-clause-narrow
branch_options-requires-clause-narrow c =
    subst IsNarrow (sym c.branch-t.ensures) (typed_narrow c.args.t.now.window_us c.args.t.now.queries c.args.q c.args.b c.args.t.now.typed c.requires.query c.requires.branch)
