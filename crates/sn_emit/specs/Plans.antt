-- to be believed
-- The lanes of a plan, one for each piece in order.
use Rattle.std.specs.Prelude.{◌≡◌, ℕ, suc, List, [], ◌∷◌, ◌++◌, map, take, false, Option}
use Rattle.std.specs.FinSet as set
use Rattle.std.specs.Option.{option_map}
use Rattle.std.specs.Ordering.{nat_cmp}
use Rattle.sn_base.specs.declared.lane.Lane.{Lane}
use Rattle.sn_plan_fit.specs.Paths.{level_before, place_in}
use Rattle.sn_pipe_items.specs.Items.{items}
use Rattle.sn_pipe.specs.Pipes.{IsNewPipe, PipeState, at_start, rows_admitted}
use Rattle.sn_pipe.specs.declared.gate.Gate.{Gate}
use Rattle.sn_plan_grammar.specs.declared.plan.Entry.{Entry}
use Rattle.sn_plan_grammar.specs.declared.plan.Piece.{Piece}
use Rattle.sn_types.specs.declared.typed_query.TypedQuery.{TypedQuery}
use Rattle.sn_report.specs.Items.{Item}
use Rattle.sn_types.specs.Cuts.{size_at}
use Rattle.sn_types.specs.Typed.{branch_at, query_at}
use Rattle.sn_types.specs.Values.{op_at}
use Rattle.sn_switch.specs.declared.switch.Switch.{Switch}
use Rattle.sn_emit.specs.declared.sender.Sender.{Sender}
use Rattle.sn_emit.specs.declared.tables.Tables.{Tables}

-- a piece of a plan, with the number of its query and the path of its entry
pub record Placed : Type 0 where
  pub query : ℕ
  pub path : List ℕ
  pub piece : Piece

abbrev pub placed : ℕ → List ℕ → Piece → Placed
placed q path piece = record { query = q; path = path; piece = piece }

-- the pieces of entries in their order, of which the first is that of this query
abbrev pub pieces_from : ℕ → List Entry → List Placed
pieces_from q [] = []
pieces_from q (e ∷ es) = map (placed q e.levels) e.pieces ++ pieces_from (suc q) es

-- the lane of a piece: its query, the place of its level in the path, and its branch
abbrev pub lane_of : ℕ → List ℕ → Piece → Lane
lane_of q path piece = record { query = q; level = place_in path piece.level; branch = piece.branch }

-- the room of a switch
abbrev pub tables_of : Switch → Tables
tables_of s = record { depth = s.chain; entries = s.entries }

-- the table of a level, with so many entries
abbrev pub gate_of : Option ℕ → ℕ → Gate
gate_of entries bits = record { bits = bits; entries = entries }

-- the table of the level before a level on a path
abbrev pub gate_before : Option ℕ → List ℕ → ℕ → Option Gate
gate_before entries path level = option_map (gate_of entries) (level_before path level)

-- a pipe is that of a piece, as it was made
abbrev pub IsNewPipeOf : List TypedQuery → Tables → Placed → PipeState → Type 0
IsNewPipeOf queries tables x pipe =
    IsNewPipe (query_at queries x.query) x.piece.branch x.piece.level (gate_before tables.entries x.path x.piece.level)
    (take x.piece.cut (branch_at queries x.query x.piece.branch).ops) tables.depth x.piece.slots pipe

-- a lane is that of a piece: it has its name, and at the start of a window its pipe is as it was made, but for the prefix set
pub record IsLaneOf (queries : List TypedQuery) (tables : Tables) (x : Placed) (s : Sender) : Type 0 where
  pub lane : s.lane ≡ lane_of x.query x.path x.piece
  pub pipe : IsNewPipeOf queries tables x (at_start s.pipe set.empty)

-- lanes are those of pieces, one for each in order
abbrev pub AreLanesOf : List TypedQuery → Tables → List Placed → List Sender → Type 0
AreLanesOf queries tables [] [] = Unit {0}
AreLanesOf queries tables [] (s ∷ ss) = ⊥
AreLanesOf queries tables (x ∷ xs) [] = ⊥
AreLanesOf queries tables (x ∷ xs) (s ∷ ss) = IsLaneOf queries tables x s × AreLanesOf queries tables xs ss

-- a lane as it is made: that of a piece, at the start of a window, with an empty prefix set and nothing given
pub record IsNewLane (queries : List TypedQuery) (tables : Tables) (x : Placed) (s : Sender) : Type 0 where
  pub lane : s.lane ≡ lane_of x.query x.path x.piece
  pub pipe : IsNewPipeOf queries tables x s.pipe
  pub none_given : s.given ≡ 0
  pub no_end : s.ended ≡ false

-- lanes as they are made, one for each piece in order
abbrev pub AreNewLanes : List TypedQuery → Tables → List Placed → List Sender → Type 0
AreNewLanes queries tables [] [] = Unit {0}
AreNewLanes queries tables [] (s ∷ ss) = ⊥
AreNewLanes queries tables (x ∷ xs) [] = ⊥
AreNewLanes queries tables (x ∷ xs) (s ∷ ss) = IsNewLane queries tables x s × AreNewLanes queries tables xs ss

-- the items of a piece over the tuples of a window, with the prefixes that the level before answered in the window before
abbrev pub items_of : List TypedQuery → Tables → Placed → set.FinSet nat_cmp → List (List ℕ) → List Item
items_of queries tables x kept tuples =
    let branch = branch_at queries x.query x.piece.branch in
    items tables.depth (size_at branch.ops x.piece.slots) x.piece.cut (map (op_at x.piece.level) branch.ops)
    (rows_admitted (query_at queries x.query) x.piece.branch x.piece.level (gate_before tables.entries x.path x.piece.level) kept tuples)
