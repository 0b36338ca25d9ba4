use Rattle.std.proofs.Common.{◌≡◌, ◌+◌, ◌*◌, ◌≤◌, length}
use Rattle.sn_plan_choices.specs.Options.{options}
use Rattle.sn_plan_choices.proofs.OptionLists.{from_cut}
use Rattle.sn_plan_choices.proofs.setting.branch_options.Given as goal

abbrev pub invariant-loop-cut : goal.invariant-loop-cut
invariant-loop-cut l = record { value : l.count + length (from_cut l.s l.branch l.cut) ≡ length (options l.s l.branch); most : l.count ≤ 16 * l.cut }
