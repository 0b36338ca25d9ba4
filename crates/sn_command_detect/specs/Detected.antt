-- to be believed
-- What is said of the windows of a capture: the stays of each refined query's addresses, and when each was printed.
use Rattle.std.specs.Prelude.{◌≡◌, ℕ, suc, ◌-◌, List, [], ◌∷◌, ◌++◌, map, length, is_some, get_or, unwrap_or}
use Rattle.std.specs.Prelude.{None, Some, true, false, if◌then◌else◌}
use Rattle.std.specs.List.{AllByRecursion, flat_map}
use Rattle.sn_base.specs.declared.column.Column.{Column}
use Rattle.sn_command_capture.specs.Wording.{Wording}
use Rattle.sn_detect.specs.declared.look.Look.{Look}
use Rattle.sn_detect.specs.declared.stay.Stay.{Stay}
use Rattle.sn_detect.specs.Finding.{stays_of}
use Rattle.sn_detect.specs.Stays.{AreStays, IsInTime}
use Rattle.sn_out.specs.Text.{bound_line, damage_line, stay_line, total_line}
use Rattle.sn_pcap.specs.declared.packet.Ending.{Ending}
use Rattle.sn_plan_grammar.specs.declared.plan.Entry.{Entry}
use Rattle.sn_refine.specs.Refined.{Windows, column_of, level_rows, refined_rows}
use Rattle.sn_refine.specs.Steps.{windows_of}
use Rattle.sn_refine_laws.specs.Monotone.{is_monotone}
use Rattle.sn_refine_laws.specs.Reported.{is_reported, unrefined_rows}
use Rattle.sn_types.specs.declared.typed_query.TypedQuery.{TypedQuery}
use Rattle.sn_types.specs.Typed.{final_columns, finest_level, query_at}
use Rattle.sn_windows.specs.Rising.{Window}

-- a refined query, by its number, and the path of its entry
abbrev pub Watched : Type 0
Watched = ℕ × List ℕ

-- the refined ones of the queries from a number on, with the paths of these entries
abbrev pub watched_from : List TypedQuery → ℕ → List Entry → List Watched
watched_from queries n [] = []
watched_from queries n (e ∷ es) =
    if is_some (query_at queries n).field then (n, e.levels) ∷ watched_from queries (suc n) es else watched_from queries (suc n) es

-- a window and the refinement columns of its answers at the finest level: the unrefined ones, and those refined along the path
abbrev pub look_in : TypedQuery → Windows → List ℕ → Window → Look
look_in query windows path w =
    record {
      window = w.0;
      unrefined = column_of query (level_rows query (finest_level query) (Some w.1));
      refined = column_of query (refined_rows query windows path (length path - 1) w.0);
    }

abbrev pub looks_in : TypedQuery → List ℕ → List Window → List Look
looks_in query path windows = map (look_in query (windows_of windows) path) windows

-- of an address and a window: the unrefined answers hold it, those refined along the path do
abbrev pub AnsweredIn : TypedQuery → List Window → ℕ → ℕ → Type 0
AnsweredIn query windows a w = is_reported query (unrefined_rows query (windows_of windows) w) a ≡ true

abbrev pub PrintedIn : TypedQuery → List ℕ → List Window → ℕ → ℕ → Type 0
PrintedIn query path windows a w = is_reported query (refined_rows query (windows_of windows) path (length path - 1) w) a ≡ true

-- the stays of a query's addresses over these windows
abbrev pub stays_in : TypedQuery → List ℕ → List Window → List Stay
stays_in query path windows = stays_of (looks_in query path windows)

-- they are exactly the stays of the addresses that the query answers, each with the first of its windows in which the path prints it
abbrev pub AreExact : TypedQuery → List ℕ → List Window → Type 0
AreExact query path windows = AreStays (AnsweredIn query windows) (PrintedIn query path windows) (stays_in query path windows)

-- where the query is monotone, each stay of as many windows as the path has levels was printed in time
abbrev pub AreInTime : List TypedQuery → List Window → Watched → Type 0
AreInTime queries windows x =
    is_monotone (query_at queries x.0) ≡ true → AllByRecursion (IsInTime (length x.1)) (stays_in (query_at queries x.0) x.1 windows)

-- the column that has the addresses of a refined query
abbrev pub column_in : TypedQuery → Column
column_in query = get_or (final_columns query) (unwrap_or query.column 0) (record { name = query.name; width = 1; address = false })

abbrev pub stay_text : TypedQuery → Stay → List ℕ
stay_text query s = stay_line (column_in query) s.address s.first s.last s.printed

-- the line of a query on a path, and those of these stays
abbrev pub stays_text : TypedQuery → List ℕ → List Stay → List ℕ
stays_text query path stays = bound_line query.name (length path) (is_monotone query) ++ flat_map (stay_text query) stays

abbrev pub watched_text : List TypedQuery → List Window → Watched → List ℕ
watched_text queries windows x = stays_text (query_at queries x.0) x.1 (stays_in (query_at queries x.0) x.1 windows)

-- Nothing is said of a window when it closes: after the last one come the lines of each refined query, that of the damage, where
-- there is some, and the total.
abbrev pub detect_lines : List TypedQuery → List Entry → List Window → Ending → List ℕ
detect_lines queries entries windows ending =
    flat_map (watched_text queries windows) (watched_from queries 0 entries) ++ damage_line ending ++ total_line (length windows) None

abbrev pub detect_wording : List TypedQuery → List Entry → Wording
detect_wording queries entries =
    record {
      first = [];
      block = λ windows number tuples. [];
      stops = λ windows number tuples. None;
      unfinished = λ closed number tuples. [];
      last = detect_lines queries entries;
    }
