-- serves proofs
-- The slots of keys in registers of the largest size.
use Rattle.std.specs.Prelude.{ℕ, List, [], ◌∷◌}
use Rattle.sn_base.specs.Groups.{Row}
use Rattle.sn_base.specs.Slot.{slot}
use Rattle.sn_chain.specs.Limits.{largest_register}

-- a key's slots in the first two registers
abbrev pub largest_slots : Row → List ℕ
largest_slots key = slot 0 key largest_register ∷ slot 1 key largest_register ∷ []
