use Rattle.std.proofs.Common.{◌≡◌, length, map, slice_index, take}
use Rattle.sn_base.specs.AnyFold.{any_step, any_unit}
use Rattle.sn_base.specs.Groups.{folded, same_row}
use Rattle.sn_cost_seats.specs.Seats.{rows_at}
use Rattle.sn_cost_seats.specs.Tallies.{marked}
use Rattle.sn_cost_tally.specs.Counts.{counted}
use Rattle.sn_cost_tally.specs.Numbered.{zipped}
use Rattle.sn_cost_tally.specs.Renumbered.{AreRenumbered}
use Rattle.sn_cost_tally.proofs.regroup.fold_marked.Given as goal

abbrev pub invariant-loop-place : goal.invariant-loop-place
invariant-loop-place g l = record {
  so_far : AreRenumbered l.all.keys l.own.keys l.own.places.items l.own.slots.items;
  times : zipped l.own.keys l.times.items ≡ counted (marked l.marks (take l.place (rows_at l.all.keys l.all.of_rows.items)));
  totals : zipped l.own.keys l.totals.items ≡ folded same_row (any_step l.fold) (any_unit l.fold) (marked l.marks (take l.place (zipped (rows_at l.all.keys l.all.of_rows.items) (map (λ row. slice_index row l.value) l.rows))));
  times_long : length l.times.items ≡ length l.own.keys;
  totals_long : length l.totals.items ≡ length l.own.keys;
}
