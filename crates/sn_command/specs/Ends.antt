-- to be believed
-- How a command ends, and why.
use Rattle.std.specs.Prelude.{◌≡◌, ℕ, ◌⊎◌, List, [], Option, Some, is_some, Result, Ok, Err, ◌≤◌, take}
use Rattle.std.specs.Io.KnownBytes.{append_known}
use Rattle.std.specs.FinMap.{get}
use Rattle.sn_io.specs.Counts.{ByName, count_of}
use Rattle.sn_command.specs.declared.refusal.Refusal.{Refusal}
use Rattle.sn_command.specs.Refusals.{status_of}
use Rattle.sn_command.specs.Lines.{line_of}
use Rattle.sn_command.specs.Worlds.{Files, Sunk, AnyRose, AnyUnknown, FirstUnknown, Spares, OutRose}
use Rattle.sn_command.specs.Outcomes.{Outcome, Stage, WentOutFront}

-- the exit status of an end, and the line on it
abbrev pub end_status : Result (Unit {0}) Refusal → ℕ
end_status (Ok _) = 0
end_status (Err refusal) = status_of refusal

abbrev pub end_line : Result (Unit {0}) Refusal → List ℕ
end_line (Ok _) = []
end_line (Err refusal) = line_of refusal

-- Why a run may end otherwise than its outcome: memory ran out, a count of a file word that rose, or a count of the
-- output that rose.
abbrev pub Excused : Type 0 → Type 0 → ℕ → Type 0
Excused read_rose write_rose status = (status ≡ 1) ⊎ (((status ≡ 9) × read_rose) ⊎ ((status ≡ 10) × write_rose))

-- a status comes exactly where it is due, unless the run is excused
pub record Comes (n due status : ℕ) (excused : Type 0) : Type 0 where
  pub only_where : status ≡ n → due ≡ n
  pub wherever : due ≡ n → (status ≡ n) ⊎ excused

-- A run of a command against the outcome of its work.
pub record IsRun (outcome : Outcome (Unit {0})) (read_rose write_rose : Type 0) (status : ℕ) (before now : Option (List ℕ)) : Type 0 where
  -- 0: all was read to its end and written.
  pub done : Comes 0 (end_status outcome.end) status (Excused read_rose write_rose status)
  -- 3: the query file is refused.
  pub queries : Comes 3 (end_status outcome.end) status (Excused read_rose write_rose status)
  -- 4: the switch text is refused.
  pub switch : Comes 4 (end_status outcome.end) status (Excused read_rose write_rose status)
  -- 5: the header of a capture is refused, or the answered capture ends in a damaged record.
  pub capture : Comes 5 (end_status outcome.end) status (Excused read_rose write_rose status)
  -- 6: the plan text is refused, or the plan doesn't fit.
  pub plan : Comes 6 (end_status outcome.end) status (Excused read_rose write_rose status)
  -- 7: the cost and the tree aren't accepted, or they don't show that the plan costs least.
  pub tree : Comes 7 (end_status outcome.end) status (Excused read_rose write_rose status)
  -- 8: the search used up its nodes.
  pub budget : Comes 8 (end_status outcome.end) status (Excused read_rose write_rose status)
  -- 9: only where the count of a file word rose in this call, or exactly where a file word isn't known in its turn.
  pub read_fault : status ≡ 9 → read_rose ⊎ (end_status outcome.end ≡ 9)
  pub missing : end_status outcome.end ≡ 9 → (status ≡ 9) ⊎ Excused read_rose write_rose status
  -- 10: only where a count of the output rose in this call.
  pub write_fault : status ≡ 10 → write_rose
  -- 11: the reports aren't whole windows of the plan's frames.
  pub reports : Comes 11 (end_status outcome.end) status (Excused read_rose write_rose status)
  -- 12: a file has too many bytes, or a window too many records.
  pub too_large : Comes 12 (end_status outcome.end) status (Excused read_rose write_rose status)
  -- What was written is always a front of the text, and all of it unless the run is excused.
  pub front : WentOutFront outcome.text before now
  pub whole : (Excused read_rose write_rose status → ⊥) → now ≡ append_known before outcome.text
  -- Where no count rose, the status is the outcome's and the whole text is written, unless memory ran out.
  pub complete : (read_rose → ⊥) → (write_rose → ⊥) → (status ≡ 1) ⊎ ((status ≡ end_status outcome.end) × (now ≡ append_known before outcome.text))

-- a line is printed: a front of it always, and all of it where no count rose
pub record IsReported (line : List ℕ) (before now : Sunk) : Type 0 where
  pub front : WentOutFront line before.written now.written
  pub whole : (OutRose before now → ⊥) → now.written ≡ append_known before.written line

-- a line of this status is printed, by the table of statuses and lines
abbrev pub IsStatusReported : ℕ → Sunk → Sunk → Type 0
IsStatusReported status before now = (end : Result (Unit {0}) Refusal) × (status ≡ end_status end) × IsReported (end_line end) before now

-- the files, the output and the error output of a call
pub record Around : Type 0 where
  pub files : Files
  pub out : Sunk
  pub err : Sunk

-- A call with the words of a command that reads the files of these names, against the stages of the command's work.
pub record IsCommandRun (names : List (List ℕ)) (work : Stage (Unit {0})) (before : Around) (status : ℕ) (now : Around) : Type 0 where
  -- Over files whose contents are known, it is the run of the work's outcome.
  pub run : (files : ByName (List ℕ)) → before.files.reported ≡ Some files → (outcome : Outcome (Unit {0})) → work files outcome →
      IsRun outcome (AnyRose names before.files now.files) (OutRose before.out now.out) status before.out.written now.out.written
  -- Then, where the status is the one that is due, the line is that of the outcome.
  pub due_line : (files : ByName (List ℕ)) → before.files.reported ≡ Some files → (outcome : Outcome (Unit {0})) → work files outcome →
      status ≡ end_status outcome.end → IsReported (end_line outcome.end) before.err now.err
  -- 9 over any files: only where the count of a file word rose, or a file word isn't known; always where the first one isn't.
  pub read_fault : status ≡ 9 → AnyRose names before.files now.files ⊎ AnyUnknown names before.files
  pub unknown : FirstUnknown names before.files → status ≡ 9
  -- Over any files: what is known of their contents stays, the same names are known, and no count falls.
  pub reported : now.files.reported ≡ before.files.reported
  pub known : (name : List ℕ) → is_some (get now.files.faults name) ≡ is_some (get before.files.faults name)
  pub faults : (name : List ℕ) → count_of before.files.faults name ≤ count_of now.files.faults name
  -- Each name that is no file word of the command keeps its count.
  pub others : Spares names before.files now.files
  -- Each file is read when its turn comes. 3 over any files: each name but that of the queries, which are the first, keeps its count.
  pub queries_first : status ≡ 3 → Spares (take 1 names) before.files now.files
  -- 4 over any files: each name but those of the queries and of the switch, which is the second, keeps its count.
  pub switch_second : status ≡ 4 → Spares (take 2 names) before.files now.files
