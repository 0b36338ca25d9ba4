use Rattle.std.proofs.Common.{◌≡◌}
use Rattle.sn_base.specs.AnyFold.{any_has, any_step, any_unit}
use Rattle.sn_cost_tally.specs.Numbered.{folded_times}
use Rattle.sn_cost_tally.proofs.folds.fold_times.Given as goal

abbrev pub invariant-loop : goal.invariant-loop
invariant-loop l = record {
  is : l.total ≡ folded_times (any_step l.fold) (any_unit l.fold) l.value l.counter;
  had : any_has l.fold l.total;
}
