use Rattle.std.proofs.Common.{◌≡◌, ◌-◌, ◌++◌, ◌^◌, length}
use Rattle.std.specs.List.{flat_map, range_with_len}
use Rattle.sn_plan_choices.specs.Costs.{entry_in}
use Rattle.sn_types.specs.Typed.{query_at}
use Rattle.sonata_entries.specs.Table.{branches_text, fronts_text}
use Rattle.sonata_entries.proofs.table.push_fronts.Given as goal

abbrev pub invariant-loop-front : goal.invariant-loop-front
invariant-loop-front l =
    l.text.items ++ flat_map (branches_text l.s (entry_in l.table) l.t.queries l.q) (range_with_len l.front (2 ^ length (query_at l.t.queries l.q).levels - l.front))
    ≡ l.fn.text.items ++ fronts_text l.s (entry_in l.table) l.t.queries l.q
