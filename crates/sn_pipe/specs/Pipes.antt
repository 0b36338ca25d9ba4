-- serves proofs
-- A pipe: the prefix of a branch at a level, for the tuples that a coarser level admits.
use Rattle.std.specs.Prelude.{◌≡◌, ℕ, ◌<◌, List, [], ◌∷◌, ◌++◌, map, filter, fold, take, length, Bool, true, nat_eq, Option, None, Some, IsSome}
use Rattle.std.specs.Prelude.{if◌then◌else◌}
use Rattle.std.specs.List.{list_any}
use Rattle.std.specs.Ordering.{nat_cmp}
use Rattle.std.specs.FinSet as set
use Rattle.sn_base.specs.Groups.{Row}
use Rattle.sn_fields.specs.declared.field.Field.{Field}
use Rattle.sn_engine_split.specs.Opened as opened
use Rattle.sn_engine_split.specs.Opened.{Prefixes, tuples_admitted, tabled}
use Rattle.sn_report.specs.Items.{Item}
use Rattle.sn_types.specs.declared.typed_op.TOp.{TOp}
use Rattle.sn_types.specs.declared.typed_query.TypedQuery.{TypedQuery}
use Rattle.sn_types.specs.Typed.{branch_of, packet_row}
use Rattle.sn_pipe.specs.AnyStage.{Stage}
use Rattle.sn_pipe.specs.declared.gate.Gate.{Gate}
use Rattle.sn_pipe.specs.declared.rows.PacketRows.{PacketRows}
use Rattle.sn_pipe.specs.declared.stage.Stage.TheVariants.{Filter, Map, Distinct, Reduce}
use Rattle.sn_types.specs.Cuts.{size_at}
use Rattle.sn_pipe.specs.Making.{AreStagesOf}
use Rattle.sn_pipe.specs.Prefixes.{PrefixState}
use Rattle.std.specs.Option.{option_map, option_to_list}
use Rattle.sn_pipe.specs.Stages.{cleared, item_from, stages_after, top_of}

-- the query and the number of the branch; the table of the level before on the path, if there is one, and its prefixes; the prefix
pub record PipeState : Type 0 where
  pub query : TypedQuery
  pub branch : ℕ
  pub coarser : Option Gate
  pub members : set.FinSet nat_cmp
  pub prefix : PrefixState

-- the level of a table
abbrev pub bits_of : Option Gate → Option ℕ
bits_of coarser = option_map (λ gate. gate.bits) coarser

-- prefixes of these bits, where there are some
abbrev pub asking : Option ℕ → set.FinSet nat_cmp → Option Prefixes
asking None members = None
asking (Some bits) members = Some (bits, members)

-- The prefixes by which tuples are admitted in a window: those of the level before, where one is given and its table doesn't stay
-- open.
abbrev pub passing : Option Gate → set.FinSet nat_cmp → Option Prefixes
passing None members = None
passing (Some gate) members = tabled gate.entries (Some (gate.bits, members))

-- a tuple is admitted
abbrev pub is_admitted : Option Field → Option Gate → set.FinSet nat_cmp → List ℕ → Bool
is_admitted field coarser members tuple = opened.admits field (passing coarser members) tuple

abbrev pub admits : PipeState → List ℕ → Bool
admits p tuple = is_admitted p.query.field p.coarser p.members tuple

-- the packet row of a tuple
abbrev pub row_in : PipeState → List ℕ → Row
row_in p tuple = packet_row p.query.field p.prefix.level (branch_of p.query p.branch).fields tuple

-- the item that a tuple gives
abbrev pub item_of : PipeState → List ℕ → Option Item
item_of p tuple = if admits p tuple then item_from p.prefix.level 0 p.prefix.stages (row_in p tuple) else None

-- the stages after a tuple
abbrev pub after_tuple : PipeState → List ℕ → List Stage
after_tuple p tuple = if admits p tuple then stages_after p.prefix.level p.prefix.stages (row_in p tuple) else p.prefix.stages

-- the registers of a reduce have its fold
abbrev pub FoldsAgree : List Stage → Type 0
FoldsAgree [] = Unit {0}
FoldsAgree (Filter conds ∷ ss) = FoldsAgree ss
FoldsAgree (Map exprs ∷ ss) = FoldsAgree ss
FoldsAgree (Distinct chain spilled ∷ ss) = FoldsAgree ss
FoldsAgree (Reduce r chain ∷ ss) = (chain.fold ≡ r.fold) × FoldsAgree ss

-- a level before is one of a refined query's
abbrev pub IsCoarser : TypedQuery → Option ℕ → Type 0
IsCoarser query None = Unit {0}
IsCoarser query (Some bits) = IsSome query.field × (list_any (nat_eq bits) query.levels ≡ true)

-- a prefix of this branch at one of the query's levels
pub record IsPipe (query : TypedQuery) (branch : ℕ) (coarser : Option Gate) (prefix : PrefixState) : Type 0 where
  pub cut : ℕ
  pub within : branch < length query.branches
  pub level : list_any (nat_eq prefix.level) query.levels ≡ true
  pub before : IsCoarser query (bits_of coarser)
  pub operators : map top_of prefix.stages ≡ take cut (branch_of query branch).ops
  pub folds : FoldsAgree prefix.stages

-- packet rows of a branch at a level
abbrev pub AreRowsOf : TypedQuery → ℕ → ℕ → PacketRows → Type 0
AreRowsOf query branch level rows = (rows.refined ≡ query.field) × (rows.level ≡ level) × (rows.fields ≡ (branch_of query branch).fields)

-- a pipe as it is made: with these operators at this level, empty registers and an empty prefix set
pub record IsNewPipe (query : TypedQuery) (branch level : ℕ) (coarser : Option Gate) (ops : List TOp) (depth : ℕ) (sizes : List ℕ)
    (pipe : PipeState) : Type 0 where
  pub same_query : pipe.query ≡ query
  pub same_branch : pipe.branch ≡ branch
  pub same_coarser : pipe.coarser ≡ coarser
  pub no_member : pipe.members ≡ set.empty
  pub same_level : pipe.prefix.level ≡ level
  pub stages : AreStagesOf ops depth (size_at ops sizes) pipe.prefix.stages
  pub unread : pipe.prefix.place ≡ 0

-- ---- a window

-- the rows of the tuples that are admitted
abbrev pub rows_in : PipeState → List (List ℕ) → List Row
rows_in p tuples = map (row_in p) (filter (admits p) tuples)

abbrev pub after_packet : PipeState → List ℕ → PipeState
after_packet p tuple = record p { prefix = record p.prefix { stages = after_tuple p tuple } }

abbrev pub after_packets : PipeState → List (List ℕ) → PipeState
after_packets p tuples = fold after_packet p tuples

-- what tuples give that come one after another
abbrev pub packets_give : PipeState → List (List ℕ) → List Item
packets_give p [] = []
packets_give p (tuple ∷ tuples) = option_to_list (item_of p tuple) ++ packets_give (after_packet p tuple) tuples

-- a pipe at the start of a window, with this prefix set
abbrev pub at_start : PipeState → set.FinSet nat_cmp → PipeState
at_start p kept = record p { members = kept; prefix = record p.prefix { stages = map cleared p.prefix.stages; place = 0 } }

-- the packet rows of the tuples that a pipe with these prefixes admits
abbrev pub rows_admitted : TypedQuery → ℕ → ℕ → Option Gate → set.FinSet nat_cmp → List (List ℕ) → List Row
rows_admitted query b level coarser members tuples =
    map (packet_row query.field level (branch_of query b).fields) (tuples_admitted query (passing coarser members) tuples)
