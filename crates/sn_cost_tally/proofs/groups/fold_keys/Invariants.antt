use Rattle.std.proofs.Common.{◌≡◌, length, map, take}
use Rattle.std.specs.Option.{option_copied}
use Rattle.sn_base.specs.AnyFold.{any_step, any_unit}
use Rattle.sn_base.specs.Groups.{columns_at, folded, keyed, same_row}
use Rattle.sn_cost_tally.specs.Counts.{counted}
use Rattle.sn_cost_tally.specs.Numbered.{zipped}
use Rattle.sn_cost_tally.specs.Weighed.{weighed}
use Rattle.sn_cost_tally.proofs.groups.fold_keys.Given as goal

abbrev pub invariant-loop-place : goal.invariant-loop-place
invariant-loop-place g l = record {
  same : l.keys ≡ l.numbers.keys;
  times : zipped l.keys l.times.items ≡ counted (map (columns_at l.places) (weighed (take l.place l.rows) (option_copied l.weights)));
  totals : zipped l.keys l.totals.items ≡ folded same_row (any_step l.fold) (any_unit l.fold) (map (keyed l.places l.value) (weighed (take l.place l.rows) (option_copied l.weights)));
  times_long : length l.times.items ≡ length l.keys;
  totals_long : length l.totals.items ≡ length l.keys;
}
