-- to be believed
-- The checks of a plan, in order.
use Rattle.std.specs.Prelude.{ℕ, zero, suc, ◌+◌, ◌*◌, List, [], ◌∷◌, ◌++◌, take, length, false, not, ◌==◌, nat_lt, slice_get, Option, Some, None}
use Rattle.sn_plan_grammar.specs.declared.plan.Entry.{Entry}
use Rattle.sn_plan_grammar.specs.declared.plan.Piece.{Piece}
use Rattle.sn_switch.specs.declared.switch.Switch.{Switch}
use Rattle.sn_types.specs.declared.typed_op.TOp.{TOp}
use Rattle.sn_types.specs.declared.typed_query.TypedQuery.{TypedQuery}
use Rattle.sn_types.specs.declared.typed_query.TypedBranch.{TypedBranch}
use Rattle.sn_plan_fit.specs.declared.misfit.Misfit.{Misfit}
use Rattle.sn_plan_fit.specs.declared.misfit.MisfitKind.{MisfitKind}
use Rattle.sn_plan_fit.specs.declared.misfit.MisfitKind.TheVariants.{Cut, Slots, Order, Actions, Bits, Meta}
use Rattle.sn_plan_fit.specs.Checks.{failing, or_else}
use Rattle.sn_plan_fit.specs.Paths.{is_among, path_misfit}
use Rattle.sn_plan_fit.specs.Placing.{Table}
use Rattle.sn_types.specs.Cuts.{stateful}
use Rattle.sn_plan_fit.specs.Tables.{op_tables, membership, order_misfit, stage_misfit}
use Rattle.sn_plan_fit.specs.Registers.{Register, op_registers, count_in, bits_in, metadata}

-- ---- a piece of a branch

-- the operators before the cut
abbrev pub prefix_of : TypedBranch → Piece → List TOp
prefix_of b p = take p.cut b.ops

-- its tables in order
abbrev pub tables_of : ℕ → List ℕ → TypedBranch → Piece → List Table
tables_of d path b p = membership p.level path ++ op_tables d (prefix_of b p) p.stages

abbrev pub registers_of : ℕ → TypedBranch → Piece → List Register
registers_of d b p = op_registers d b.schemas 0 (prefix_of b p) p.slots p.stages

abbrev pub metadata_of : TypedBranch → Piece → ℕ
metadata_of b p = metadata b.schemas false 0 (prefix_of b p)

abbrev pub cut_misfit : TypedBranch → Piece → Option Misfit
cut_misfit b p = failing (nat_lt b.max_cut p.cut) Cut b.max_cut p.cut

-- the first size that isn't one of these
abbrev pub strange_size : List ℕ → List ℕ → Option Misfit
strange_size sizes [] = None
strange_size sizes (n ∷ ns) = or_else (failing (not (is_among sizes n)) Slots 0 n) (strange_size sizes ns)

-- another count of numbers is wanted
abbrev pub count_misfit : MisfitKind → ℕ → ℕ → Option Misfit
count_misfit kind want got = failing (not (got == want)) kind want got

abbrev pub slots_misfit : List ℕ → TypedBranch → Piece → Option Misfit
slots_misfit sizes b p = or_else (count_misfit Slots (stateful (prefix_of b p)) (length p.slots)) (strange_size sizes p.slots)

abbrev pub stages_misfit : ℕ → TypedBranch → Piece → Option Misfit
stages_misfit d b p = count_misfit Order (d * stateful (prefix_of b p)) (length p.stages)

abbrev pub tables_misfit : ℕ → List Table → Option Misfit
tables_misfit stages tables = or_else (order_misfit 0 tables) (stage_misfit stages tables)

abbrev pub piece_misfit : Switch → List ℕ → TypedBranch → Piece → Option Misfit
piece_misfit s path b p =
    or_else (cut_misfit b p) (or_else (slots_misfit s.slots b p) (or_else (stages_misfit s.chain b p) (tables_misfit s.stages (tables_of s.chain path b p))))

-- ---- all pieces

-- of the branch of a piece; where it has none, its entry is at fault already
abbrev pub on_branch : {A : Type 0} → A → (TypedBranch → A) → Option TypedBranch → A
on_branch none f None = none
on_branch none f (Some b) = f b

abbrev pub piece_branch : TypedQuery → Piece → Option TypedBranch
piece_branch q p = slice_get q.branches p.branch

-- the first misfit of an entry's pieces
abbrev pub first_piece : (TypedBranch → Piece → Option Misfit) → TypedQuery → List Piece → Option Misfit
first_piece check q [] = None
first_piece check q (p ∷ ps) = or_else (on_branch None (λ b. check b p) (piece_branch q p)) (first_piece check q ps)

-- the first misfit of all pieces, entry by entry; a check takes the path too
abbrev pub first_misfit : (List ℕ → TypedBranch → Piece → Option Misfit) → List TypedQuery → List Entry → Option Misfit
first_misfit check [] es = None
first_misfit check (q ∷ qs) [] = None
first_misfit check (q ∷ qs) (e ∷ es) = or_else (first_piece (check e.levels) q e.pieces) (first_misfit check qs es)

-- ---- sums

abbrev pub entry_registers : ℕ → TypedQuery → List Piece → List Register
entry_registers d q [] = []
entry_registers d q (p ∷ ps) = on_branch [] (λ b. registers_of d b p) (piece_branch q p) ++ entry_registers d q ps

-- the registers of all pieces
abbrev pub all_registers : ℕ → List TypedQuery → List Entry → List Register
all_registers d [] es = []
all_registers d (q ∷ qs) [] = []
all_registers d (q ∷ qs) (e ∷ es) = entry_registers d q e.pieces ++ all_registers d qs es

abbrev pub entry_metadata : TypedQuery → List Piece → ℕ
entry_metadata q [] = 0
entry_metadata q (p ∷ ps) = on_branch 0 (λ b. metadata_of b p) (piece_branch q p) + entry_metadata q ps

-- the metadata of all pieces
abbrev pub all_metadata : List TypedQuery → List Entry → ℕ
all_metadata [] es = 0
all_metadata (q ∷ qs) [] = 0
all_metadata (q ∷ qs) (e ∷ es) = entry_metadata q e.pieces + all_metadata qs es

-- ---- stages

-- the registers of a stage and then their bits
abbrev pub load_misfit : Switch → List Register → ℕ → Option Misfit
load_misfit s registers stage =
    or_else (failing (nat_lt s.actions (count_in stage registers)) Actions s.actions (count_in stage registers))
    (failing (nat_lt s.bits (bits_in stage registers)) Bits s.bits (bits_in stage registers))

-- stage by stage, this many from this one on
abbrev pub loads_misfit : Switch → List Register → ℕ → ℕ → Option Misfit
loads_misfit s registers stage zero = None
loads_misfit s registers stage (suc n) = or_else (load_misfit s registers stage) (loads_misfit s registers (stage + 1) n)

abbrev pub meta_misfit : Switch → ℕ → Option Misfit
meta_misfit s metadata = failing (nat_lt s.meta metadata) Meta s.meta metadata

-- ---- the plan

-- every path, and then every cut
abbrev pub shape_misfit : List TypedQuery → List Entry → Option Misfit
shape_misfit queries entries = or_else (path_misfit 0 queries entries) (first_misfit (λ path b p. cut_misfit b p) queries entries)

-- every path, then piece by piece, then stage by stage, then the metadata
abbrev pub fit_misfit : List TypedQuery → Switch → List Entry → Option Misfit
fit_misfit queries s entries =
    or_else (path_misfit 0 queries entries)
    (or_else (first_misfit (piece_misfit s) queries entries)
    (or_else (loads_misfit s (all_registers s.chain queries entries) 0 s.stages)
    (meta_misfit s (all_metadata queries entries))))
