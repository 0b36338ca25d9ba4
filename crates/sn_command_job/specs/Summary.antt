-- to be believed
-- What `job` writes of a plan and of the windows that it answers.
use Rattle.std.specs.Prelude.{ℕ, List, [], ◌∷◌, ◌++◌, length, ◌==◌, codes, None, if◌then◌else◌}
use Rattle.std.specs.Fmt.{decimal}
use Rattle.std.specs.List.{flat_map}
use Rattle.sn_command_capture.specs.Wording.{Wording}
use Rattle.sn_gen.specs.Generated.{packet_count}
use Rattle.sn_out.specs.Text.{row_line}
use Rattle.sn_command_run.specs.Planned.{Planned, Telling, reported_at, reported_emitted_in}
use Rattle.sn_types.specs.declared.answers.Answers.{Answers}
use Rattle.sn_types.specs.declared.answers.Part.{Part}
use Rattle.sn_types.specs.declared.typed_query.TypedQuery.{TypedQuery}
use Rattle.sn_types.specs.Typed.{final_columns, finest_level, query_at}
use Rattle.sn_windows.specs.Rising.{Window}

-- words and a number on a line of their own
abbrev pub number_line : List ℕ → ℕ → List ℕ
number_line words number = words ++ decimal number ++ 10 ∷ []

-- `job S packets 20000 windows K`
abbrev pub job_line : ℕ → ℕ → List ℕ
job_line number windows = codes "job " ++ decimal number ++ codes " packets " ++ decimal packet_count ++ number_line (codes " windows ") windows

-- `query NAME rows R`, and the rows in their order
abbrev pub rows_text : TypedQuery → List (List ℕ) → List ℕ
rows_text query rows = codes "query " ++ query.name ++ number_line (codes " rows ") (length rows) ++ flat_map (row_line (final_columns query)) rows

-- of a query's answers at a level: they are shown at its finest level alone
abbrev pub shown_part : List TypedQuery → Part → List ℕ
shown_part queries part = if part.level == finest_level (query_at queries part.query) then rows_text (query_at queries part.query) part.rows else []

-- of a window's answers: they are shown of window 3 alone
abbrev pub shown : List TypedQuery → Answers → List ℕ
shown queries answers = if answers.window == 3 then flat_map (shown_part queries) answers.parts else []

-- of the windows of a capture that is answered along a plan, where this is reported of their answers
abbrev pub shown_at : Telling → Planned → List Window → Window → List ℕ
shown_at reported p windows w = shown p.queries (reported_at reported p windows w.0)

abbrev pub shown_in : Telling → Planned → List Window → List ℕ
shown_in reported p windows = flat_map (shown_at reported p windows) windows

-- The lines of a summary: what the plan costs on the first capture, how many items it sends of the windows that are answered, how many
-- nodes its tree has, and the rows that are shown.
abbrev pub summary_text : ℕ → ℕ → ℕ → ℕ → ℕ → List ℕ → List ℕ
summary_text number cost nodes windows emitted rows =
    job_line number windows ++ number_line (codes "cost ") cost ++ number_line (codes "emitted ") emitted ++ number_line (codes "nodes ") nodes ++ rows

-- the summary of a job, whose plan answers these windows, as it is printed
abbrev pub summary : Telling → ℕ → ℕ → ℕ → Planned → List Window → List ℕ
summary reported number cost nodes p windows = summary_text number cost nodes (length windows) (reported_emitted_in reported p windows) (shown_in reported p windows)

-- the summary is all that is written
abbrev pub summary_wording : Telling → ℕ → ℕ → ℕ → Planned → Wording
summary_wording reported number cost nodes p =
    record {
      first = [];
      block = λ windows w tuples. [];
      stops = λ windows number tuples. None;
      unfinished = λ closed number tuples. [];
      last = λ windows ending. summary reported number cost nodes p windows;
    }
