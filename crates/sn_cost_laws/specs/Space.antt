-- to be believed
-- Plans as a space, each with what it costs over training windows.
use Rattle.std.specs.Prelude.{ℕ, List}
use Rattle.sn_switch.specs.declared.switch.Switch.{Switch}
use Rattle.sn_types.specs.declared.typed_query.TypedQuery.{TypedQuery}
use Rattle.sn_types.specs.Typed.{branch_at, query_at}
use Rattle.sn_tree_space.specs.Space.{Space}
use Rattle.sn_plan_choices.specs.Options.{option_at}
use Rattle.sn_plan_lists.specs.Theorems.{plans_of}
use Rattle.sn_windows.specs.Rising.{Window}
use Rattle.sn_cost.specs.Entries.{entry_count}

-- the entry of a piece over training windows: how many items it sends, and the switch's weight for each prefix that is installed
abbrev pub trained_entry : Switch → List TypedQuery → List Window → ℕ → ℕ → ℕ → ℕ → ℕ
trained_entry s queries given q prefix b n = entry_count s.chain s.entries s.weight (query_at queries q) given prefix b (option_at s (branch_at queries q b) n)

-- the plans of queries on a switch, each with what it costs over training windows
abbrev pub trained_plans : Switch → List TypedQuery → List Window → Space
trained_plans s queries given = plans_of s (trained_entry s queries given) queries
