use Rattle.std.proofs.Common.{◌≡◌, map, take}
use Rattle.sn_cost_tally.specs.Largest.{largest_slots}
use Rattle.sn_cost_tally.proofs.largest.of_keys.Given as goal

abbrev pub invariant-loop-key : goal.invariant-loop-key
invariant-loop-key g l = l.found.items ≡ map largest_slots (map g.R.Columns.columns (take l.key-index l.keys))
