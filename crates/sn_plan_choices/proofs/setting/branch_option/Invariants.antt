use Rattle.std.proofs.Common.{◌≡◌, [], get_or}
use Rattle.sn_plan_choices.specs.Options.{option_at}
use Rattle.sn_plan_choices.proofs.OptionLists.{from_cut}
use Rattle.sn_plan_choices.proofs.setting.branch_option.Given as goal

abbrev pub invariant-loop-cut : goal.invariant-loop-cut
invariant-loop-cut l = get_or (from_cut l.s l.branch l.cut) l.left (0, []) ≡ option_at l.s l.branch l.n
