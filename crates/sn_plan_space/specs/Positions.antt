-- serves proofs
-- Where a reader of choices stands, and what a choice takes up.
use Rattle.std.specs.Prelude.{◌≡◌, ℕ, List, [], ◌∷◌, ◌++◌, map, Bool, Option, Some, None}
use Rattle.std.specs.List.{sum_by, list_any}
use Rattle.sn_switch.specs.declared.switch.Switch.{Switch}
use Rattle.sn_plan_fit.specs.Capped.{capped}
use Rattle.sn_plan_fit.specs.Registers.{Register, in_stage}
use Rattle.sn_tree_space.specs.Readers.{MayFollow}
use Rattle.sn_tree_space.specs.Agendas.{Agenda, first_choices, after_choice}
use Rattle.sn_plan_choices.specs.Options as choices
use Rattle.sn_plan_choices.specs.Planning.{Task, for_path, for_piece, for_stage, StageTask, PieceTask, PathTask, Taken, metadata_of, is_past, registers_in}
use Rattle.sn_plan_choices.specs.Planning.{next_stage, past_by, planning}
use Rattle.sn_plan_space.specs.declared.waiting.Waiting.{Waiting}
use Rattle.sn_plan_space.specs.declared.position.Position.{Position}
use Rattle.sn_plan_space.specs.declared.position.Standing.{Standing}
use Rattle.sn_plan_space.specs.declared.position.Took.{Took}
use Rattle.sn_plan_space.specs.Known.{known_slot, known_piece, known_query}

-- the register that waits is that of this task, if there is one
abbrev pub WaitsFor : Option Waiting → List StageTask → Type 0
WaitsFor None tasks = tasks ≡ []
WaitsFor (Some w) [] = ⊥
WaitsFor (Some w) (t ∷ ts) = (ts ≡ []) × (w.least ≡ t.least) × (w.bits ≡ capped t.bits) × (w.following.now ≡ map known_slot t.following)

-- the first register of these tables, and whether the last table is past the last stage
pub record IsNext (stages least : ℕ) (tables : List choices.Slot) (w : Option Waiting) (past : Bool) : Type 0 where
  pub waits : WaitsFor w (next_stage least tables)
  pub is_past : past ≡ list_any is_past (past_by stages least tables)

-- ---- what a choice takes up

abbrev pub IsRegister : Option Standing → List Register → Type 0
IsRegister None registers = registers ≡ []
IsRegister (Some r) registers = (all : ℕ) × (r.bits ≡ capped all) × (registers ≡ in_stage all r.stage ∷ [])

pub record IsTook (took : Took) (taken : List Taken) : Type 0 where
  pub of_register : IsRegister took.register (registers_in taken)
  pub of_metadata : took.metadata ≡ sum_by metadata_of taken
  pub of_past : took.is_past ≡ list_any is_past taken

-- ---- positions

module _ (s : Switch) (entry : ℕ → ℕ → ℕ → ℕ → ℕ) where
  -- a position is that of an agenda: its register, the pieces of its path and its queries are the tasks that are left, and as much was spent
  pub record Stands (p : Position) (a : Agenda Task Taken) : Type 0 where
    pub stages : List StageTask
    pub some_pieces : List PieceTask
    pub some_paths : List PathTask
    pub left : a.left ≡ map for_stage stages ++ (map for_piece some_pieces ++ map for_path some_paths)
    pub waits : WaitsFor p.waiting stages
    pub of_pieces : p.pieces.now ≡ map (known_piece s entry) some_pieces
    pub of_queries : p.queries.now ≡ map (known_query s entry) some_paths
    pub of_spent : p.spent ≡ capped a.spent

  -- a choice leads to this position and takes this up
  pub record IsAfter (a : Agenda Task Taken) (x : ℕ) (p : Position) (took : Took) : Type 0 where
    pub next : Agenda Task Taken
    pub is_next : next ≡ after_choice (planning s entry) a a.left x
    pub stands : Stands p next
    pub taken : List Taken
    pub adds : next.taken ≡ a.taken ++ taken
    pub is_took : IsTook took taken

-- whatever the agenda is that a position stands for, where the choice may be made it leads to this position and takes this up
abbrev pub GoesTo : ℕ → Position → ℕ → Position → Took → Type 0
GoesTo stages p x next took =
    (s : Switch) (entry : ℕ → ℕ → ℕ → ℕ → ℕ) (a : Agenda Task Taken) → s.stages ≡ stages → Stands s entry p a
    → MayFollow (first_choices (planning s entry) a.left) x → IsAfter s entry a x next took
