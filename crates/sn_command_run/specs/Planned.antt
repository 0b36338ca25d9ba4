-- to be believed
-- What is written of the windows of a capture that is answered along a plan.
use Rattle.std.specs.Prelude.{ℕ, List, [], ◌++◌, map, sum, length, Bool, true, false, Some, None}
use Rattle.sn_command_capture.specs.Wording.{Wording}
use Rattle.sn_engine_lockstep.specs.Windows.{plan_answers}
use Rattle.sn_out.specs.Records.{heading_line, window_records}
use Rattle.sn_out.specs.Text.{block_text, damage_line, total_line}
use Rattle.sn_pcap.specs.declared.packet.Ending.{Ending}
use Rattle.sn_plan_grammar.specs.declared.plan.Entry.{Entry}
use Rattle.sn_refine.specs.Steps.{windows_of}
use Rattle.sn_types.specs.declared.answers.Answers.{Answers}
use Rattle.sn_types.specs.declared.typed_query.TypedQuery.{TypedQuery}
use Rattle.sn_command_run.specs.declared.form.Form.{Form}
use Rattle.sn_command_run.specs.declared.form.Form.TheVariants as forms
use Rattle.sn_windows.specs.Rising.{Window}
use Rattle.sn_emit.specs.declared.tables.Tables.{Tables}

-- a plan of queries, on a switch with this room
pub record Planned : Type 0 where
  pub queries : List TypedQuery
  pub tables : Tables
  pub entries : List Entry

-- The answers in a window along the plan, in a capture with these windows: the refined answers of the queries along their
-- paths, of which windows that hold no record have none, and how many items were sent.
abbrev pub answers_at : Planned → List Window → ℕ → Answers
answers_at p windows w = plan_answers p.queries p.tables p.entries (windows_of windows) w

-- how many items were sent in all windows
abbrev pub emitted_at : Planned → List Window → Window → ℕ
emitted_at p windows w = (answers_at p windows w.0).emitted

abbrev pub emitted_in : Planned → List Window → ℕ
emitted_in p windows = sum (map (emitted_at p windows) windows)

-- ---- as they are reported

-- What a machine reports of answers. It may be more or less than the answers themselves; nothing is known here of what it is.
abbrev pub Telling : Type 0
Telling = Answers → Answers

-- answers that are reported as they are
abbrev pub as_they_are : Telling
as_they_are answers = answers

-- what is reported of the answers in a window
abbrev pub reported_at : Telling → Planned → List Window → ℕ → Answers
reported_at reported p windows w = reported (answers_at p windows w)

-- how many items were reported as sent in all windows
abbrev pub reported_emitted_at : Telling → Planned → List Window → Window → ℕ
reported_emitted_at reported p windows w = (reported_at reported p windows w.0).emitted

abbrev pub reported_emitted_in : Telling → Planned → List Window → ℕ
reported_emitted_in reported p windows = sum (map (reported_emitted_at reported p windows) windows)

-- ---- in blocks

-- the block of a window: its line with that number, and its answers
abbrev pub plan_block : Planned → List Window → ℕ → List (List ℕ) → List ℕ
plan_block p windows w tuples = block_text p.queries (answers_at p windows w) true

-- after the blocks: the line of the damage, where there is some, and the total
abbrev pub plan_lines : Planned → List Window → Ending → List ℕ
plan_lines p windows ending = damage_line ending ++ total_line (length windows) (Some (emitted_in p windows))

abbrev pub plan_wording : Planned → Wording
plan_wording p =
    record { first = []; block = plan_block p; stops = λ windows number tuples. None; unfinished = λ closed number tuples. []; last = plan_lines p }

-- the same, where the answers are reported
abbrev pub reported_block : Telling → Planned → List Window → ℕ → List (List ℕ) → List ℕ
reported_block reported p windows w tuples = block_text p.queries (reported_at reported p windows w) true

abbrev pub reported_lines : Telling → Planned → List Window → Ending → List ℕ
reported_lines reported p windows ending = damage_line ending ++ total_line (length windows) (Some (reported_emitted_in reported p windows))

abbrev pub reported_wording : Telling → Planned → Wording
reported_wording reported p =
    record { first = []; block = reported_block reported p; stops = λ windows number tuples. None; unfinished = λ closed number tuples. []; last = reported_lines reported p }

-- ---- as comma-separated values

-- the records of a window's rows
abbrev pub reported_records : Telling → Planned → List Window → ℕ → List (List ℕ) → List ℕ
reported_records reported p windows w tuples = window_records p.queries (reported_at reported p windows w)

-- the heading and the records: no window, no damage and no total has a line
abbrev pub records_wording : Telling → Planned → Wording
records_wording reported p =
    record {
      first = heading_line;
      block = reported_records reported p;
      stops = λ windows number tuples. None;
      unfinished = λ closed number tuples. [];
      last = λ windows ending. [];
    }

-- ---- in either form

abbrev pub wording_in : Form → Telling → Planned → Wording
wording_in forms.Blocks reported p = reported_wording reported p
wording_in forms.Records reported p = records_wording reported p

-- with `--csv` answers are written as comma-separated values, and else in blocks
abbrev pub form_of : Bool → Form
form_of true = forms.Records
form_of false = forms.Blocks
