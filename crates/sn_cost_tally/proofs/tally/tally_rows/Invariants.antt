use Rattle.std.proofs.Common.{◌≡◌, length, take}
use Rattle.std.specs.Option.{option_copied}
use Rattle.sn_cost_tally.specs.Counts.{counted}
use Rattle.sn_cost_tally.specs.Numbered.{zipped}
use Rattle.sn_cost_tally.specs.Weighed.{weighed}
use Rattle.sn_cost_tally.proofs.tally.tally_rows.Given as goal

abbrev pub invariant-loop-place : goal.invariant-loop-place
invariant-loop-place g l = record {
  same : l.keys ≡ l.numbers.keys;
  times : zipped l.keys l.times.items ≡ counted (weighed (take l.place l.rows) (option_copied l.weights));
  long : length l.times.items ≡ length l.keys;
}
