use Rattle.std.proofs.Common.{ℕ, ◌%◌, map, ap, ◌∙◌}
use Rattle.sn_base.specs.Slot.{row_hash}
use Rattle.sn_lanes.proofs.LaneLemmas.{map_map}
use Rattle.sn_lanes.proofs.slots8.slots_of_eight.Goals as goal

pub returns-then-are_narrow : goal.returns-then-are_narrow
returns-then-are_narrow g c =
    let hash : g.row.R.Denot → ℕ = λ key. row_hash c.args.index (g.R.Columns.columns key) in
    let slot : ℕ → ℕ = λ h. h % c.args.slots in
    c.fill_slots.ensures ∙ ap (map slot) c.hashes8.ensures ∙ map_map slot hash c.args.keys.now
