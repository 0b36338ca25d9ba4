-- to be believed
-- Which plans fit a switch.
use Rattle.std.specs.Prelude.{◌≡◌, ℕ, ◌*◌, ◌<◌, ◌≤◌, List, [], ◌∷◌, map, length, true, Option, Some, None}
use Rattle.std.specs.List.{AllByRecursion}
use Rattle.sn_plan_grammar.specs.declared.plan.Entry.{Entry}
use Rattle.sn_plan_grammar.specs.declared.plan.Piece.{Piece}
use Rattle.sn_switch.specs.declared.switch.Switch.{Switch}
use Rattle.sn_types.specs.declared.typed_query.TypedQuery.{TypedQuery}
use Rattle.sn_types.specs.declared.typed_query.TypedBranch.{TypedBranch}
use Rattle.sn_plan_fit.specs.Paths.{is_among, last_of, piece_place, places}
use Rattle.sn_plan_fit.specs.Placing.{HasPlacing}
use Rattle.sn_base.specs.Rising.{IsRising}
use Rattle.sn_types.specs.Cuts.{stateful}
use Rattle.sn_plan_fit.specs.Pieces.{prefix_of, tables_of, piece_branch, all_registers, all_metadata}
use Rattle.sn_plan_fit.specs.Registers.{Register, count_in, bits_in}

-- a rising list of a query's levels that ends in the finest
pub record IsPath (levels path : List ℕ) : Type 0 where
  pub rising : IsRising path
  pub known : AllByRecursion (λ level. is_among levels level ≡ true) path
  pub finest : (level : ℕ) × (last_of path ≡ Some level) × (last_of levels ≡ Some level)

-- An entry of a query: it has its name and a path of its levels, and its pieces are one for each level of the path and branch, by level and then branch.
pub record IsEntryOf (q : TypedQuery) (e : Entry) : Type 0 where
  pub name : e.name ≡ q.name
  pub path : IsPath q.levels e.levels
  pub pieces : map piece_place e.pieces ≡ places q.branches e.levels

-- one entry for each query, in order
abbrev pub AreEntriesOf : List TypedQuery → List Entry → Type 0
AreEntriesOf [] [] = Unit {0}
AreEntriesOf [] (e ∷ es) = ⊥
AreEntriesOf (q ∷ qs) [] = ⊥
AreEntriesOf (q ∷ qs) (e ∷ es) = IsEntryOf q e × AreEntriesOf qs es

-- a piece of a branch by itself
pub record PieceFits (s : Switch) (path : List ℕ) (b : TypedBranch) (p : Piece) : Type 0 where
  pub cut : p.cut ≤ b.max_cut
  pub sizes : length p.slots ≡ stateful (prefix_of b p)
  pub listed : AllByRecursion (λ n. is_among s.slots n ≡ true) p.slots
  pub stages : length p.stages ≡ s.chain * stateful (prefix_of b p)
  pub placing : HasPlacing s.stages (tables_of s.chain path b p)

abbrev pub OnBranch : (TypedBranch → Type 0) → Option TypedBranch → Type 0
OnBranch P None = Unit {0}
OnBranch P (Some b) = P b

-- each piece by itself
abbrev pub PiecesFit : (List ℕ → TypedBranch → Piece → Type 0) → List TypedQuery → List Entry → Type 0
PiecesFit P [] es = Unit {0}
PiecesFit P (q ∷ qs) [] = Unit {0}
PiecesFit P (q ∷ qs) (e ∷ es) = AllByRecursion (λ p. OnBranch (λ b. P e.levels b p) (piece_branch q p)) e.pieces × PiecesFit P qs es

-- the registers of a stage, and their bits
pub record StageFits (s : Switch) (registers : List Register) (stage : ℕ) : Type 0 where
  pub actions : count_in stage registers ≤ s.actions
  pub bits : bits_in stage registers ≤ s.bits

-- A plan fits where its entries are those of the queries, every piece has its cut, its sizes and a placing, and over the whole plan the
-- registers of each stage, their bits, and the metadata keep the switch's limits.
pub record Fits (queries : List TypedQuery) (s : Switch) (entries : List Entry) : Type 0 where
  pub paths : AreEntriesOf queries entries
  pub pieces : PiecesFit (PieceFits s) queries entries
  pub loads : (stage : ℕ) → stage < s.stages → StageFits s (all_registers s.chain queries entries) stage
  pub meta : all_metadata queries entries ≤ s.meta

-- a plan has the shape of the queries: its entries are theirs, and every cut can be one
pub record HasShape (queries : List TypedQuery) (entries : List Entry) : Type 0 where
  pub paths : AreEntriesOf queries entries
  pub cuts : PiecesFit (λ path b p. p.cut ≤ b.max_cut) queries entries
