-- serves proofs
-- Planning as tasks: the path of each query, the option of each piece, and the stage of each register.
use Rattle.std.specs.Prelude.{ℕ, ◌+◌, ◌-◌, ◌^◌, ◌/◌, ◌%◌, ◌==◌, List, [], ◌∷◌, ◌++◌, map, take, length, Bool, true, false, ◌||◌, nat_lt, if◌then◌else◌}
use Rattle.std.specs.List.{flat_map, range_with_len, sum_by, list_any}
use Rattle.sn_switch.specs.declared.switch.Switch.{Switch}
use Rattle.sn_types.specs.declared.typed_query.TypedQuery.{TypedQuery}
use Rattle.sn_types.specs.declared.typed_query.TypedBranch.{TypedBranch}
use Rattle.sn_plan_fit.specs.Registers.{Register, count_in, bits_in, metadata}
use Rattle.sn_tree_space.specs.declared.follow.Follow.{Follow}
use Rattle.sn_tree_space.specs.declared.follow.Follow.TheVariants.{Choices}
use Rattle.sn_tree_space.specs.Agendas.{Tasks}
use Rattle.sn_plan_choices.specs.Options.{paths, options, option_at, Slot, plain, keyed, piece_slots, registers_among}
use Rattle.sn_plan_choices.specs.Within.{least_below, greatest_below}

-- ---- what is taken up

-- a register in a stage, a piece's metadata, or a piece that goes past the last stage
pub data Taken : Type 0 where
  in_register : ℕ → ℕ → Taken
  in_metadata : ℕ → Taken
  past_stages : Taken

abbrev pub register_of : Taken → List Register
register_of (in_register stage bits) = record { stage = stage; bits = bits } ∷ []
register_of (in_metadata n) = []
register_of past_stages = []

abbrev pub metadata_of : Taken → ℕ
metadata_of (in_register stage bits) = 0
metadata_of (in_metadata n) = n
metadata_of past_stages = 0

abbrev pub is_past : Taken → Bool
is_past (in_register stage bits) = false
is_past (in_metadata n) = false
is_past past_stages = true

abbrev pub registers_in : List Taken → List Register
registers_in taken = flat_map register_of taken

-- a stage has too many registers, or too many bits
abbrev pub is_full : Switch → List Taken → ℕ → Bool
is_full s taken stage = nat_lt s.actions (count_in stage (registers_in taken)) || nat_lt s.bits (bits_in stage (registers_in taken))

-- too much for the switch: a piece goes past the last stage, a stage is too full, or there is too much metadata
abbrev pub is_too_much : Switch → List Taken → Bool
is_too_much s taken = list_any is_past taken || (list_any (is_full s taken) (range_with_len 0 s.stages) || nat_lt s.meta (sum_by metadata_of taken))

-- ---- the tasks

-- the stage of a register of this many bits, which is at least this one, and the tables of its piece after it
pub record StageTask : Type 0 where
  pub least : ℕ
  pub bits : ℕ
  pub following : List Slot

-- the option of a piece: of a query, on a path through these levels (bit i for its level i), of a branch, the first of its path or not
pub record PieceTask : Type 0 where
  pub query : ℕ
  pub levels : ℕ
  pub is_first : Bool
  pub number : ℕ
  pub branch : TypedBranch

pub record PathTask : Type 0 where
  pub query : ℕ
  pub typed : TypedQuery

pub data Task : Type 0 where
  for_path : PathTask → Task
  for_piece : PieceTask → Task
  for_stage : StageTask → Task

-- the next register to place, where the first of these tables may have this stage
abbrev pub next_stage : ℕ → List Slot → List StageTask
next_stage least [] = []
next_stage least (plain ∷ slots) = next_stage (least + 1) slots
next_stage least (keyed bits ∷ slots) = record { least = least; bits = bits; following = slots } ∷ []

-- after the last register no table may be past the last stage
abbrev pub past_by : ℕ → ℕ → List Slot → List Taken
past_by stages least [] = if nat_lt stages least then past_stages ∷ [] else []
past_by stages least (plain ∷ slots) = past_by stages (least + 1) slots
past_by stages least (keyed bits ∷ slots) = []

-- the pieces of a level, one for each branch from this number on
abbrev pub level_pieces : ℕ → ℕ → Bool → ℕ → List TypedBranch → List PieceTask
level_pieces query levels is_first n [] = []
level_pieces query levels is_first n (b ∷ bs) =
    record { query = query; levels = levels; is_first = is_first; number = n; branch = b } ∷ level_pieces query levels is_first (n + 1) bs

-- The pieces along path m, from level i of the query on, where these levels were before: of all but the finest level i where bit i of m is set, and
-- always the finest.
abbrev pub path_pieces : ℕ → List TypedBranch → ℕ → ℕ → ℕ → List ℕ → List PieceTask
path_pieces query branches m i before [] = []
path_pieces query branches m i before (l ∷ []) = level_pieces query (before + 2 ^ i) (before == 0) 0 branches
path_pieces query branches m i before (l ∷ k ∷ ls) =
    if m % 2 == 1 then level_pieces query (before + 2 ^ i) (before == 0) 0 branches ++ path_pieces query branches (m / 2) (i + 1) (before + 2 ^ i) (k ∷ ls)
    else path_pieces query branches (m / 2) (i + 1) before (k ∷ ls)

abbrev pub pieces_of : PathTask → ℕ → List PieceTask
pieces_of t m = path_pieces t.query t.typed.branches m 0 0 t.typed.levels

module _ (s : Switch) (entry : ℕ → ℕ → ℕ → ℕ → ℕ) where
  abbrev pub slots_of : PieceTask → ℕ → List Slot
  slots_of t x = piece_slots s t.is_first t.branch (option_at s t.branch x)

  abbrev pub entry_of : PieceTask → ℕ → ℕ
  entry_of t x = entry t.query t.levels t.number x

  abbrev pub settings : PieceTask → ℕ
  settings t = length (options s t.branch)

  -- ---- the least that a task costs, with all that it leaves

  abbrev pub least_entry : PieceTask → ℕ
  least_entry t = least_below (entry_of t) (settings t)

  abbrev pub least_path : PathTask → ℕ
  least_path t = least_below (λ m. sum_by least_entry (pieces_of t m)) (paths t.typed.levels)

  abbrev pub least_of : Task → ℕ
  least_of (for_path t) = least_path t
  least_of (for_piece t) = least_entry t
  least_of (for_stage t) = 0

  -- ---- how many choices a task takes at most, with all that it leaves

  abbrev pub most_stage : StageTask → ℕ
  most_stage t = 1 + registers_among t.following

  abbrev pub most_piece : PieceTask → ℕ
  most_piece t = 1 + greatest_below (λ x. registers_among (slots_of t x)) (settings t)

  abbrev pub most_path : PathTask → ℕ
  most_path t = 1 + greatest_below (λ m. sum_by most_piece (pieces_of t m)) (paths t.typed.levels)

  abbrev pub most_of : Task → ℕ
  most_of (for_path t) = most_path t
  most_of (for_piece t) = most_piece t
  most_of (for_stage t) = most_stage t

  -- ---- the choices of a task

  abbrev pub choices_of : Task → Follow
  choices_of (for_path t) = Choices 0 (paths t.typed.levels)
  choices_of (for_piece t) = Choices 0 (settings t)
  choices_of (for_stage t) = Choices t.least (s.stages - t.least)

  abbrev pub leaves_of : Task → ℕ → List Task
  leaves_of (for_path t) x = map for_piece (pieces_of t x)
  leaves_of (for_piece t) x = map for_stage (next_stage 0 (slots_of t x))
  leaves_of (for_stage t) x = map for_stage (next_stage (x + 1) t.following)

  abbrev pub cost_of : Task → ℕ → ℕ
  cost_of (for_path t) x = 0
  cost_of (for_piece t) x = entry_of t x
  cost_of (for_stage t) x = 0

  abbrev pub takes_of : Task → ℕ → List Taken
  takes_of (for_path t) x = []
  takes_of (for_piece t) x =
      in_metadata (metadata t.branch.schemas false 0 (take (option_at s t.branch x).0 t.branch.ops)) ∷ past_by s.stages 0 (slots_of t x)
  takes_of (for_stage t) x = in_register x t.bits ∷ past_by s.stages (x + 1) t.following

  abbrev pub planning : Tasks Task Taken
  planning = record { choices = choices_of; leaves = leaves_of; cost = cost_of; takes = takes_of; least = least_of; most = most_of; too_much = is_too_much s }

-- the first tasks: the path of each query, by its number
abbrev pub first_tasks : ℕ → List TypedQuery → List Task
first_tasks n [] = []
first_tasks n (q ∷ qs) = for_path (record { query = n; typed = q }) ∷ first_tasks (n + 1) qs
