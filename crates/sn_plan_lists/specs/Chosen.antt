-- to be believed
-- The plan that a complete list of choices names, and the choices of a plan.
use Rattle.std.specs.Prelude.{ℕ, ◌+◌, ◌*◌, ◌≤◌, List, [], ◌∷◌, ◌++◌, take, drop, length, slice_index}
use Rattle.std.specs.List.{flat_map}
use Rattle.sn_plan_grammar.specs.declared.plan.Entry.{Entry}
use Rattle.sn_plan_grammar.specs.declared.plan.Piece.{Piece}
use Rattle.sn_switch.specs.declared.switch.Switch.{Switch}
use Rattle.sn_types.specs.declared.typed_query.TypedQuery.{TypedQuery}
use Rattle.sn_types.specs.declared.typed_query.TypedBranch.{TypedBranch}
use Rattle.sn_types.specs.Cuts.{stateful}
use Rattle.sn_types.specs.Typed.{branch_of}
use Rattle.sn_base.specs.Rising.{IsRising}
use Rattle.sn_plan_choices.specs.Options.{Setting, option_at, path_of}
use Rattle.sn_plan_lists.specs.Numbers.{path_number, option_number}

-- ---- the plan of choices

-- where a piece stands: a level, and a branch with its number
pub record Seat : Type 0 where
  pub level : ℕ
  pub number : ℕ
  pub branch : TypedBranch

abbrev pub seat_at : ℕ → ℕ → TypedBranch → Seat
seat_at level n b = record { level = level; number = n; branch = b }

-- the pieces of a level, one for each branch from this number on
abbrev pub level_seats : ℕ → ℕ → List TypedBranch → List Seat
level_seats level n [] = []
level_seats level n (b ∷ bs) = seat_at level n b ∷ level_seats level (n + 1) bs

-- one piece for each level of a path and branch, by level and then branch
abbrev pub path_seats : List TypedBranch → List ℕ → List Seat
path_seats branches path = flat_map (λ level. level_seats level 0 branches) path

-- the registers of a piece with an option
abbrev pub registers_with : Switch → TypedBranch → Setting → ℕ
registers_with s b o = s.chain * stateful (take o.0 b.ops)

abbrev pub piece_with : Seat → Setting → List ℕ → Piece
piece_with seat o stages = record { level = seat.level; branch = seat.number; cut = o.0; slots = o.1; stages = stages }

-- the option of a piece, the first of these choices
abbrev pub first_option : Switch → Seat → List ℕ → Setting
first_option s seat choices = option_at s seat.branch (slice_index choices 0)

-- A piece that choices name: its option, and then a stage for each of its registers.
abbrev pub piece_at : Switch → Seat → List ℕ → Piece
piece_at s seat choices = piece_with seat (first_option s seat choices) (take (registers_with s seat.branch (first_option s seat choices)) (drop 1 choices))

-- the choices after those of a piece
abbrev pub after_piece : Switch → Seat → List ℕ → List ℕ
after_piece s seat choices = drop (registers_with s seat.branch (first_option s seat choices)) (drop 1 choices)

-- the pieces that choices name, one after another
abbrev pub pieces_at : Switch → List Seat → List ℕ → List Piece
pieces_at s [] choices = []
pieces_at s (seat ∷ seats) choices = piece_at s seat choices ∷ pieces_at s seats (after_piece s seat choices)

abbrev pub after_pieces : Switch → List Seat → List ℕ → List ℕ
after_pieces s [] choices = choices
after_pieces s (seat ∷ seats) choices = after_pieces s seats (after_piece s seat choices)

abbrev pub first_path : TypedQuery → List ℕ → List ℕ
first_path q choices = path_of (slice_index choices 0) q.levels

-- The entry of a query that choices name: its path, and then its pieces.
abbrev pub entry_at : Switch → TypedQuery → List ℕ → Entry
entry_at s q choices = record {
  name = q.name;
  levels = first_path q choices;
  pieces = pieces_at s (path_seats q.branches (first_path q choices))
      (drop 1 choices);
}

abbrev pub after_entry : Switch → TypedQuery → List ℕ → List ℕ
after_entry s q choices = after_pieces s (path_seats q.branches (first_path q choices)) (drop 1 choices)

-- the plan that choices name, query by query
abbrev pub plan_at : Switch → List TypedQuery → List ℕ → List Entry
plan_at s [] choices = []
plan_at s (q ∷ qs) choices = entry_at s q choices ∷ plan_at s qs (after_entry s q choices)

-- ---- the choices of a plan

abbrev pub option_of : Switch → TypedQuery → Piece → ℕ
option_of s q p = option_number s (branch_of q p.branch) (p.cut, p.slots)

-- of a piece the number of its option, and its stages
abbrev pub piece_choices : Switch → TypedQuery → Piece → List ℕ
piece_choices s q p = option_of s q p ∷ p.stages

-- of an entry the number of its path, and the choices of its pieces
abbrev pub entry_choices : Switch → TypedQuery → Entry → List ℕ
entry_choices s q e = path_number q.levels e.levels ∷ flat_map (piece_choices s q) e.pieces

-- of a plan those of its entries
abbrev pub plan_choices : Switch → List TypedQuery → List Entry → List ℕ
plan_choices s [] es = []
plan_choices s (q ∷ qs) [] = []
plan_choices s (q ∷ qs) (e ∷ es) = entry_choices s q e ++ plan_choices s qs es

-- ---- what queries keep

-- each has a level, and its levels rise
pub record HasLevels (q : TypedQuery) : Type 0 where
  pub some : 1 ≤ length q.levels
  pub rising : IsRising q.levels
