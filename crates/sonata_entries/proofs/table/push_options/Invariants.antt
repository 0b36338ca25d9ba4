use Rattle.std.proofs.Common.{◌≡◌, ◌-◌, ◌++◌, length}
use Rattle.std.specs.List.{flat_map, range_with_len}
use Rattle.sn_plan_choices.specs.Costs.{entry_in}
use Rattle.sn_plan_choices.specs.Options.{options}
use Rattle.sn_types.specs.Typed.{branch_at}
use Rattle.sonata_entries.specs.Table.{option_text, options_text}
use Rattle.sonata_entries.proofs.table.push_options.Given as goal

abbrev pub invariant-loop-n : goal.invariant-loop-n
invariant-loop-n l =
    l.text.items ++ flat_map (option_text l.s (entry_in l.table) l.t.queries l.q l.front l.b) (range_with_len l.n (length (options l.s (branch_at l.t.queries l.q l.b)) - l.n))
    ≡ l.fn.text.items ++ options_text l.s (entry_in l.table) l.t.queries l.q l.front l.b
