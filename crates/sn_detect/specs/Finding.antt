-- serves proofs
-- Stays as they are found: what the windows hold is sorted by address and window, and taken from the last on.
use Rattle.std.specs.Prelude.{ℕ, ◌+◌, ◌-◌, ◌*◌, ◌/◌, ◌%◌, ◌^◌, List, [], ◌∷◌, ◌++◌, map, Bool, cond, ◌&&◌, ◌==◌, nat_le, slice_index, None, Some}
use Rattle.std.specs.List.{flat_map}
use Rattle.sn_base.specs.Groups.{Row}
use Rattle.sn_base.specs.Sorted.{sorted_rows}
use Rattle.sn_detect.specs.declared.look.Look.{Look}
use Rattle.sn_detect.specs.declared.stay.Stay.{Stay}

-- An address in a window, and 0 where it is of the refined answers, 1 where it is of the unrefined ones. The address stands as two
-- numbers of 64 bits, so that short rows hold the events of addresses of 128 bits too.
abbrev pub event : ℕ → ℕ → ℕ → Row
event w kind a = (a / 2 ^ 64) ∷ (a % 2 ^ 64) ∷ w ∷ kind ∷ []

-- the address of an event
abbrev pub address_in : Row → ℕ
address_in e = slice_index e 0 * 2 ^ 64 + slice_index e 1

abbrev pub look_events : Look → List Row
look_events look = map (event look.window 1) look.unrefined ++ map (event look.window 0) look.refined

abbrev pub events_of : List Look → List Row
events_of looks = flat_map look_events looks

-- a stay of one window
abbrev pub begun : ℕ → ℕ → Stay
begun a w = record { address = a; first = w; last = w; printed = None }

-- a stay of this address begins in this window or in the next one
abbrev pub meets : ℕ → ℕ → Stay → Bool
meets a w s = (s.address == a) && (nat_le w s.first && nat_le (s.first - w) 1)

-- a stay that begins in this window
abbrev pub from_window : ℕ → Stay → Stay
from_window w s = record { address = s.address; first = w; last = s.last; printed = s.printed }

-- an address is held in a window that is before all that was taken
abbrev pub with_held : ℕ → ℕ → List Stay → List Stay
with_held a w [] = begun a w ∷ []
with_held a w (s ∷ ss) = cond (meets a w s) (from_window w s ∷ ss) (begun a w ∷ s ∷ ss)

-- a stay that was printed in this window
abbrev pub reported_in : ℕ → Stay → Stay
reported_in w s = record { address = s.address; first = s.first; last = s.last; printed = Some w }

-- an address is reported in a window, where it is held
abbrev pub with_reported : ℕ → ℕ → List Stay → List Stay
with_reported a w [] = []
with_reported a w (s ∷ ss) = cond ((s.address == a) && (s.first == w)) (reported_in w s ∷ ss) (s ∷ ss)

abbrev pub with_event : Row → List Stay → List Stay
with_event e ss = cond (slice_index e 3 == 0) (with_reported (address_in e) (slice_index e 2) ss) (with_held (address_in e) (slice_index e 2) ss)

abbrev pub found_on : List Row → List Stay → List Stay
found_on [] ss = ss
found_on (e ∷ es) ss = with_event e (found_on es ss)

abbrev pub stays_of : List Look → List Stay
stays_of looks = found_on (sorted_rows (events_of looks)) []
