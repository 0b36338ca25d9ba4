-- serves proofs
-- One of the rows that are the same, and how many there are.
use Rattle.std.specs.Prelude.{◌≡◌, ◌<◌, List, length, map}
use Rattle.std.specs.List.{AllByRecursion, position_or_len}
use Rattle.sn_base.specs.Groups.{Row, same_row}
use Rattle.sn_cost_seats.specs.Seats.{rows_at}
use Rattle.sn_cost_tally.specs.Counts.{counted}
use Rattle.sn_cost_tally.specs.Numbered.{zipped}
use Rattle.sn_cost_tally.specs.declared.firsts.Firsts.{Firsts}

-- these are the distinct rows in the order of first places, and beside each stand the first place where it comes and how often it comes
pub record AreFirsts (rows keys : List Row) (f : Firsts) : Type 0 where
  pub at : rows_at rows f.places.items ≡ keys
  pub first : f.places.items ≡ map (λ key. position_or_len (same_row key) rows) keys
  pub times : zipped keys f.times.items ≡ counted rows
  pub long : length f.times.items ≡ length keys
  pub within : AllByRecursion (λ place. place < length rows) f.places.items
