-- serves proofs
-- What is collected of records, one after another.
use Rattle.std.specs.Prelude.{◌≡◌, ℕ, ◌<◌, ◌≤◌, ◌+◌, List, [], ◌∷◌, ◌++◌, length, map, Result, Ok, Err}
use Rattle.std.specs.List.{AllByRecursion}
use Rattle.sn_base.specs.declared.link.Link.{Link}
use Rattle.sn_pcap.specs.declared.packet.Packet.{Packet}
use Rattle.sn_command_capture.specs.Capture.{packet_tuple}
use Rattle.sn_cost_training.specs.Trained.{Training, with_window}
use Rattle.sn_windows.specs.Blocks.{most_records}
use Rattle.sn_windows.specs.Numbering.{after, begun}
use Rattle.sn_windows.specs.NumberingOf.{numbering}
use Rattle.sn_windows.specs.Windows.{number_at, numbered}
use Rattle.sn_windows.specs.declared.windows.TooMany.{TooMany}
use Rattle.sn_command_training.specs.declared.collected.Collected.{Collected}

-- a record as it is collected: its time, and its tuple
abbrev pub Seen : Type 0
Seen = ℕ × List ℕ

abbrev pub seen_time : Seen → ℕ
seen_time seen = seen.0

abbrev pub seen_tuple : Seen → List ℕ
seen_tuple seen = seen.1

abbrev pub shown : Link → List ℕ → Packet → Seen
shown link file packet = (packet.time, packet_tuple link file packet)

-- the training of these records
abbrev pub training_of_seen : ℕ → List Seen → Training
training_of_seen window seen = record { tuples = map seen_tuple seen; numbers = map number_at (numbered seen_time window seen) }

-- the windows that are over, and the current one
abbrev pub with_current : Collected → Training
with_current collected = with_window collected.over collected.windows.number collected.tuples

-- these records were collected
pub record IsCollected (window : ℕ) (seen : List Seen) (collected : Collected) : Type 0 where
  pub all : with_current collected ≡ training_of_seen window seen
  pub numbering : numbering collected.windows ≡ after (begun window) (map seen_time seen)
  pub below : AllByRecursion (λ n. n < collected.windows.number) collected.over.numbers
  pub count : collected.count ≡ length seen
  pub few : length seen ≤ most_records

-- some records were collected
abbrev pub HasCollected : Collected → Type 0
HasCollected collected = (window : ℕ) × (seen : List Seen) × IsCollected window seen collected

-- records were collected, and no tuple of the window after theirs
pub record IsOver (window : ℕ) (seen : List Seen) (before now : Collected) : Type 0 where
  pub over : now.over ≡ training_of_seen window seen
  pub none : now.tuples ≡ []
  pub windows : now.windows ≡ before.windows
  pub count : now.count ≡ before.count

-- one record more is collected, or there are as many as may be
abbrev pub Collects : ℕ → List Seen → Seen → Result (Unit {0}) TooMany → Collected → Type 0
Collects window seen one (Ok _) now = IsCollected window (seen ++ one ∷ []) now
Collects window seen one (Err _) now = (length seen ≡ most_records) × IsCollected window seen now

-- more records are collected, or there would be more than may be
abbrev pub CollectsAll : ℕ → List Seen → List Seen → Result (Unit {0}) TooMany → Collected → Type 0
CollectsAll window seen more (Ok _) now = IsCollected window (seen ++ more) now
CollectsAll window seen more (Err _) now = (most_records < length seen + length more) × HasCollected now
