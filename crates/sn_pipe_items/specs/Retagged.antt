-- serves proofs
-- The tags of items that go among those of several switches.
use Rattle.std.specs.Prelude.{ℕ, suc, if◌then◌else◌}
use Rattle.sn_report.specs.declared.frame.Item.{Item as ItemOf}
use Rattle.sn_report.specs.declared.frame.Tag.{Tag}
use Rattle.sn_pipe_items.specs.Value.{is_at}

-- an item that stands after operator i is given this tag, whatever kind of row it holds
abbrev pub retagged : {R : Type 0} → ℕ → Tag → ItemOf R → ItemOf R
retagged i tag item = if is_at (suc i) item.tag then record { tag = tag; row = item.row } else item
