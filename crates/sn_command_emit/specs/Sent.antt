-- to be believed
-- The frames that the lanes of a plan send in a window.
use Rattle.std.specs.Prelude.{ℕ, zero, suc, List, [], ◌∷◌, ◌++◌, map, filter, take, length, false, None}
use Rattle.std.specs.FinSet as set
use Rattle.std.specs.List.{flat_map, range_with_len}
use Rattle.sn_command_capture.specs.Wording.{Wording}
use Rattle.sn_base.specs.Groups.{Row}
use Rattle.sn_base.specs.Operators.{Op}
use Rattle.sn_engine_lockstep.specs.Work.{name_of}
use Rattle.sn_emit.specs.Plans.{Placed, gate_before, pieces_from}
use Rattle.sn_emit.specs.Senders.{row_frame}
use Rattle.sn_emit.specs.declared.tables.Tables.{Tables}
use Rattle.sn_plan_fit.specs.Paths.{place_in}
use Rattle.sn_pipe_items.specs.Items.{at_packet, numbered, read_from, sent_from}
use Rattle.sn_pcap.specs.declared.packet.Ending.{Ending}
use Rattle.sn_pipe.specs.Pipes.{is_admitted}
use Rattle.sn_refine.specs.Refined.{before, refined_rows}
use Rattle.sn_refine.specs.Steps.{Set, prefixes_of, windows_of}
use Rattle.sn_report.specs.Items.{Frame}
use Rattle.sn_report.specs.declared.frame.Frame.TheVariants.{End}
use Rattle.sn_report.specs.Items.{Item}
use Rattle.sn_report.specs.Frames.{spelling}
use Rattle.sn_command_run.specs.Planned.{Planned}
use Rattle.sn_types.specs.declared.typed_query.TypedQuery.{TypedQuery}
use Rattle.sn_types.specs.Cuts.{size_at}
use Rattle.sn_types.specs.Typed.{branch_at, packet_row, query_at}
use Rattle.sn_types.specs.Values.{op_at}
use Rattle.sn_windows.specs.Rising.{Window}

-- ---- what a lane admits

-- The prefixes that the level at a place of a path admits: those that the level before it answered in the window before. The
-- first level admits all tuples.
abbrev pub prefixes_for : TypedQuery → List Window → List ℕ → ℕ → ℕ → Set
prefixes_for query windows path w zero = set.empty
prefixes_for query windows path w (suc j) = prefixes_of query (before (refined_rows query (windows_of windows) path j) w)

-- the prefixes that the lane of a piece admits, in a capture with these windows
abbrev pub kept_of : List TypedQuery → List Window → ℕ → Placed → Set
kept_of queries windows w x = prefixes_for (query_at queries x.query) windows x.path w (place_in x.path x.piece.level)

-- the packet row of a tuple, beside the number of its packet in the window
abbrev pub row_beside : List TypedQuery → Placed → ℕ × List ℕ → ℕ × Row
row_beside queries x p = (p.0, packet_row (query_at queries x.query).field x.piece.level (branch_at queries x.query x.piece.branch).fields p.1)

-- the rows of the tuples of a window that the lane of a piece admits, each beside the number of its packet in the window
abbrev pub flow_of : List TypedQuery → Tables → Placed → Set → List (List ℕ) → List (ℕ × Row)
flow_of queries tables x kept tuples =
    map (row_beside queries x) (filter (λ p. is_admitted (query_at queries x.query).field (gate_before tables.entries x.path x.piece.level) kept p.1)
    (numbered 0 tuples))

-- ---- the items of a lane

-- the operators of a piece at its level, up to its cut
abbrev pub ops_of : List TypedQuery → Placed → List Op
ops_of queries x = take x.piece.cut (map (op_at x.piece.level) (branch_at queries x.query x.piece.branch).ops)

-- the slots that each of them has in a register
abbrev pub sizes_of : List TypedQuery → Placed → ℕ → ℕ
sizes_of queries x = size_at (branch_at queries x.query x.piece.branch).ops x.piece.slots

-- the items that stem from the packet of this number in the window
abbrev pub sends_at : List TypedQuery → Tables → Placed → Set → List (List ℕ) → ℕ → List Item
sends_at queries tables x kept tuples n = at_packet (sent_from tables.depth (sizes_of queries x) 0 (ops_of queries x) (flow_of queries tables x kept tuples)) n

-- the items that are read out after the last packet
abbrev pub reads_out : List TypedQuery → Tables → Placed → Set → List (List ℕ) → List Item
reads_out queries tables x kept tuples = read_from tables.depth (sizes_of queries x) 0 false (ops_of queries x) (flow_of queries tables x kept tuples)

-- ---- the frames of all lanes

-- the frames of a lane at a packet
abbrev pub frames_at : List TypedQuery → Tables → (Placed → Set) → List (List ℕ) → ℕ → Placed → List Frame
frames_at queries tables kept tuples n x = map (row_frame (name_of x)) (sends_at queries tables x (kept x) tuples n)

-- the frames of a lane after the last packet: the rows that are read out, and the End with the window's number
abbrev pub frames_after : List TypedQuery → Tables → (Placed → Set) → List (List ℕ) → ℕ → Placed → List Frame
frames_after queries tables kept tuples w x = map (row_frame (name_of x)) (reads_out queries tables x (kept x) tuples) ++ End (name_of x) w ∷ []

-- the frames of all lanes at a packet, in the plan's order
abbrev pub packet_frames : Planned → (Placed → Set) → List (List ℕ) → ℕ → List Frame
packet_frames p kept tuples n = flat_map (frames_at p.queries p.tables kept tuples n) (pieces_from 0 p.entries)

-- The frames of a window: packet by packet those of all lanes, and then lane by lane those after the last packet.
abbrev pub window_frames : Planned → List Window → ℕ → List (List ℕ) → List Frame
window_frames p windows w tuples =
    flat_map (packet_frames p (kept_of p.queries windows w) tuples) (range_with_len 0 (length tuples))
    ++ flat_map (frames_after p.queries p.tables (kept_of p.queries windows w) tuples w) (pieces_from 0 p.entries)

-- ---- what is written

-- the block of a window: the bytes of its frames
abbrev pub frames_block : Planned → List Window → ℕ → List (List ℕ) → List ℕ
frames_block p windows w tuples = flat_map (spelling 2) (window_frames p windows w tuples)

-- nothing stands before the blocks, and nothing after them, whether the capture is damaged or not
abbrev pub no_lines : List Window → Ending → List ℕ
no_lines windows ending = []

abbrev pub frames_wording : Planned → Wording
frames_wording p =
    record { first = []; block = frames_block p; stops = λ windows number tuples. None; unfinished = λ closed number tuples. []; last = no_lines }
