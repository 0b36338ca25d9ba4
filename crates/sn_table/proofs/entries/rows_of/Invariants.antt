use Rattle.std.proofs.Common.{◌≡◌, map, take}
use Rattle.sn_table.specs.HeldEntries.{row_entry}
use Rattle.sn_table.proofs.entries.rows_of.Given as goal

abbrev pub invariant-loop-place : goal.invariant-loop-place
invariant-loop-place g l = map (λ e. (g.R.Columns.columns e.0, e.1)) l.rows.entries ≡ map (row_entry l.columns) (take l.place l.numbers.entries)
