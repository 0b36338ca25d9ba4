-- serves proofs
-- How many items a branch sends, for all settings of its prefix.
use Rattle.std.specs.Prelude.{ℕ, List, map, length}
use Rattle.sn_base.specs.Groups.{Row}
use Rattle.sn_pipe_items.specs.Items.{items}
use Rattle.sn_types.specs.declared.typed_query.TypedBranch.{TypedBranch}
use Rattle.sn_types.specs.Cuts.{size_at}
use Rattle.sn_types.specs.Values.{op_at}
use Rattle.sn_plan_choices.specs.Options.{Setting}
use Rattle.sn_cost_counts.specs.Settings.{settings}

-- how many items the prefix of a setting sends of a window's packet rows
abbrev pub setting_count : TypedBranch → ℕ → ℕ → List Row → Setting → ℕ
setting_count branch level depth rows o = length (items depth (size_at branch.ops o.1) o.0 (map (op_at level) branch.ops) rows)

-- those of all settings, in their order
abbrev pub counts_of : TypedBranch → ℕ → ℕ → List ℕ → List Row → List ℕ
counts_of branch level depth slots rows = map (setting_count branch level depth rows) (settings slots branch.max_cut branch.ops)
