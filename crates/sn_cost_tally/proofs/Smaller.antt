-- Slots of keys in registers of the largest size, and of smaller ones.
use Rattle.std.proofs.Common.{◌≡◌, ℕ, ◌%◌, ap, ◌∙◌}
use Rattle.std.proofs.Math.Nat.{mod-mod_of_dvd}
use Rattle.std.proofs.lemmas.Nat.Gcd.{dvd_of_mod-eq-zero}
use Rattle.sn_base.specs.Groups.{Row}
use Rattle.sn_base.specs.Slot.{row_hash, slot}
use Rattle.sn_chain.specs.Limits.{largest_register}

-- a slot among as many as divide the largest number
pub smaller : (index slots : ℕ) (key : Row) (known left : ℕ) → known ≡ slot index key largest_register → largest_register % slots ≡ 0 → left ≡ known % slots → left ≡ slot index key slots
smaller index slots key known left is even at = at ∙ ap (λ n. n % slots) is ∙ mod-mod_of_dvd slots (row_hash index key) (dvd_of_mod-eq-zero slots even)
