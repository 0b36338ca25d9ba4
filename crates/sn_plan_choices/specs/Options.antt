-- to be believed
-- The paths of a query, and the options of a piece.
use Rattle.std.specs.Prelude.{ℕ, zero, suc, ◌+◌, ◌-◌, ◌^◌, ◌/◌, ◌%◌, List, [], ◌∷◌, ◌++◌, map, take, drop, length, replicate, Bool, ◌==◌, slice_index}
use Rattle.std.specs.Prelude.{slice_get, unwrap_or, if◌then◌else◌}
use Rattle.std.specs.List.{flat_map, range_with_len}
use Rattle.sn_base.specs.declared.column.Column.{Column}
use Rattle.sn_switch.specs.declared.switch.Switch.{Switch}
use Rattle.sn_types.specs.declared.typed_op.TOp.{TOp}
use Rattle.sn_types.specs.declared.typed_query.TypedBranch.{TypedBranch}
use Rattle.sn_types.specs.Typed.{schema_at}
use Rattle.sn_plan_fit.specs.Registers.{register_bits}
use Rattle.sn_types.specs.Cuts.{is_stateful, stateful}

-- ---- paths

-- Path m of levels: of all but the finest the level i where bit i of m is set, and always the finest.
abbrev pub path_of : ℕ → List ℕ → List ℕ
path_of m [] = []
path_of m (l ∷ []) = l ∷ []
path_of m (l ∷ k ∷ ls) = if m % 2 == 1 then l ∷ path_of (m / 2) (k ∷ ls) else path_of (m / 2) (k ∷ ls)

abbrev pub paths : List ℕ → ℕ
paths levels = 2 ^ (length levels - 1)

-- ---- options

-- a cut, and the sizes of the stateful operators before it
abbrev pub Setting : Type 0
Setting = ℕ × List ℕ

-- all lists of this many sizes, in lexicographic order
abbrev pub size_lists : List ℕ → ℕ → List (List ℕ)
size_lists sizes zero = [] ∷ []
size_lists sizes (suc n) = flat_map (λ size. map (λ rest. size ∷ rest) (size_lists sizes n)) sizes

-- the options of a piece of a branch: by cut, and within a cut by sizes
abbrev pub options : Switch → TypedBranch → List Setting
options s b = flat_map (λ cut. map (λ sizes. (cut, sizes)) (size_lists s.slots (stateful (take cut b.ops)))) (range_with_len 0 (b.max_cut + 1))

abbrev pub option_at : Switch → TypedBranch → ℕ → Setting
option_at s b x = unwrap_or (slice_get (options s b) x) (0, [])

-- ---- the tables of a piece before its registers have stages

-- a table without state, or a register of this many bits
pub data Slot : Type 0 where
  plain : Slot
  keyed : ℕ → Slot

-- of operators in order, in chains of d: the first of them is operator n of its branch
abbrev pub op_slots : ℕ → List (List Column) → ℕ → List TOp → List ℕ → List Slot
op_slots d schemas n [] sizes = []
op_slots d schemas n (op ∷ ops) sizes =
    if is_stateful op then replicate d (keyed (register_bits (slice_index sizes 0) (schema_at schemas n) op)) ++ op_slots d schemas (n + 1) ops (drop 1 sizes)
    else plain ∷ op_slots d schemas (n + 1) ops sizes

-- of a piece, where it is the first of its path or not
abbrev pub piece_slots : Switch → Bool → TypedBranch → Setting → List Slot
piece_slots s is_first b o = (if is_first then [] else plain ∷ []) ++ op_slots s.chain b.schemas 0 (take o.0 b.ops) o.1

-- how many of them are registers
abbrev pub registers_among : List Slot → ℕ
registers_among [] = 0
registers_among (plain ∷ slots) = registers_among slots
registers_among (keyed bits ∷ slots) = 1 + registers_among slots
