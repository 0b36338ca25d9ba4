use Rattle.std.proofs.Common.{map, take}
use Rattle.sn_base.specs.Groups.{columns_at}
use Rattle.sn_cost_tally.specs.Renumbered.{AreNumbered}
use Rattle.sn_cost_tally.proofs.numbered.number_keys.Given as goal

abbrev pub invariant-loop-place : goal.invariant-loop-place
invariant-loop-place g l = AreNumbered l.numbers.keys (map (columns_at l.places) (take l.place l.rows)) l.of_rows.items
