-- serves proofs
use Rattle.std.specs.Prelude.{ℕ, ◌-◌, List, ◌++◌, length, take, Bool, ◌||◌, ◌&&◌, nat_eq, nat_lt, nat_le, min, if◌then◌else◌, Result, Ok, Err}
use Rattle.std.specs.List.{list_any}
use Rattle.sn_io.specs.declared.sink.Failed.{Failed}
use Rattle.sn_io.specs.Known.{counted}

-- a sink in memory: what it took, how many bytes it takes in all, the numbers of the writes that are to fail,
-- the number of the next write, and the count of faults
pub record MemSinkState : Type 0 where
  pub bytes : List ℕ
  pub room : ℕ
  pub refused : List ℕ
  pub writes : ℕ
  pub faults : ℕ

-- the write is one that is to fail, or bytes come and the room is used up
abbrev pub is_refused : MemSinkState → List ℕ → Bool
is_refused sink piece = list_any (nat_eq sink.writes) sink.refused || (nat_lt 0 (length piece) && nat_le sink.room (length sink.bytes))

-- how many bytes of the piece the room holds
abbrev pub room_for : MemSinkState → List ℕ → ℕ
room_for sink piece = min (length piece) (sink.room - length sink.bytes)

-- what a write answers
abbrev pub write_answer : MemSinkState → List ℕ → Result ℕ Failed
write_answer sink piece = if is_refused sink piece then Err (record {}) else Ok (room_for sink piece)

-- the sink after a write
abbrev pub after_write : MemSinkState → List ℕ → MemSinkState
after_write sink piece =
    if is_refused sink piece
    then record sink { writes = counted sink.writes; faults = counted sink.faults }
    else record sink { writes = counted sink.writes; bytes = sink.bytes ++ take (room_for sink piece) piece }
