use Rattle.std.proofs.Common.{◌≡◌, ◌-◌, ◌++◌, length}
use Rattle.std.specs.List.{flat_map, range_with_len}
use Rattle.sn_plan_choices.specs.Costs.{entry_in}
use Rattle.sn_types.specs.Typed.{query_at}
use Rattle.sonata_entries.specs.Table.{branches_text, options_text}
use Rattle.sonata_entries.proofs.table.push_branches.Given as goal

abbrev pub invariant-loop-b : goal.invariant-loop-b
invariant-loop-b l =
    l.text.items ++ flat_map (options_text l.s (entry_in l.table) l.t.queries l.q l.front) (range_with_len l.b (length (query_at l.t.queries l.q).branches - l.b))
    ≡ l.fn.text.items ++ branches_text l.s (entry_in l.table) l.t.queries l.q l.front
