use Rattle.std.proofs.Common.{◌≡◌, ◌-◌, ◌++◌, length}
use Rattle.std.specs.List.{flat_map, range_with_len}
use Rattle.sn_plan_choices.specs.Costs.{entry_in}
use Rattle.sonata_entries.specs.Table.{fronts_text, table_text}
use Rattle.sonata_entries.proofs.table.table_text.Given as goal

abbrev pub invariant-loop-q : goal.invariant-loop-q
invariant-loop-q l =
    l.text.items ++ flat_map (fronts_text l.s (entry_in l.table) l.t.queries) (range_with_len l.q (length l.t.queries - l.q)) ≡ table_text l.s (entry_in l.table) l.t.queries
