-- serves proofs
-- Keys of rows, by number.
use Rattle.std.specs.Prelude.{◌≡◌, ℕ, suc, ◌<◌, List, length, map}
use Rattle.std.specs.List.{AllByRecursion, position}
use Rattle.std.specs.Option.{option_map_or}
use Rattle.sn_base.specs.Groups.{Row, once, same_row}
use Rattle.sn_cost_seats.specs.Seats.{rows_at}
use Rattle.sn_cost_tally.specs.Largest.{largest_slots}

-- these are the distinct rows in the order of first places, and each number is the place among them of its row
pub record AreNumbered (keys rows : List Row) (numbers : List ℕ) : Type 0 where
  pub distinct : keys ≡ once same_row rows
  pub at : rows_at keys numbers ≡ rows
  pub within : AllByRecursion (λ number. number < length keys) numbers

-- one more than the place of a key, and 0 where it isn't there
abbrev pub placed : List Row → Row → ℕ
placed keys key = option_map_or suc (position (same_row key) keys) 0

-- the place of each of all keys among these, and their slots, are known
pub record AreRenumbered (all keys : List Row) (places : List ℕ) (slots : List (List ℕ)) : Type 0 where
  pub each : places ≡ map (placed keys) all
  pub known : slots ≡ map largest_slots keys
