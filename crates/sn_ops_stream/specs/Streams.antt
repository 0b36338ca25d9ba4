-- serves proofs
-- Branches and queries to which tuples come one after another.
use Rattle.std.specs.Prelude.{◌≡◌, ◌≢◌, ℕ, ◌+◌, ◌<◌, List, [], ◌∷◌, ◌++◌, length, Bool, Option, None, Some}
use Rattle.std.specs.List.{AllByRecursion}
use Rattle.sn_base.specs.Columns.{IsOf}
use Rattle.sn_base.specs.Groups.{Row}
use Rattle.sn_types.specs.declared.typed_query.TypedQuery.{TypedQuery}
use Rattle.sn_types.specs.Typed.{IsTyped, branch_at, end_columns, final_columns, finest_level, first_columns, packet_row, query_at}
use Rattle.sn_ops.specs.Packets.{packet_rows}
use Rattle.sn_ops.specs.Plain.{branch_rows, query_rows}
use Rattle.sn_ops.specs.Standing.{Stands}
use Rattle.sn_ops_stream.specs.Fronts.{admits}
use Rattle.sn_ops_stream.specs.States.{BranchState}
use Rattle.sn_ops_stream.specs.declared.any_branch.AnyBranch.{AnyBranch}
use Rattle.sn_ops_stream.specs.declared.any_branch.AnyBranch.TheVariants as kinds
use Rattle.sn_ops_stream.specs.declared.query.QueryStream.{QueryStream}
use Rattle.sn_ops_stream.specs.declared.streams.Streams.{Streams}

-- ---- a branch

-- these tuples have come to a branch of typed queries at a level
pub record HasTaken (queries : List TypedQuery) (q b level : ℕ) (tuples : List (List ℕ)) (s : BranchState) : Type 0 where
  pub typed : (window : ℕ) × ∥ IsTyped window queries ∥₁
  pub query : q < length queries
  pub branch : b < length (query_at queries q).branches
  pub same_refined : s.refined ≡ (query_at queries q).field
  pub same_level : s.level ≡ level
  pub same_fields : s.fields ≡ (branch_at queries q b).fields
  pub same_ops : s.ops ≡ (branch_at queries q b).ops
  pub stands : Stands level (branch_at queries q b).ops s.seen (packet_rows (query_at queries q) b level None tuples) s.out
  pub columns : AllByRecursion (IsOf (first_columns (branch_at queries q b))) (packet_rows (query_at queries q) b level None tuples)

-- it is the same branch at the same level
pub record IsSameBranch (old new : BranchState) : Type 0 where
  pub same_refined : new.refined ≡ old.refined
  pub same_level : new.level ≡ old.level
  pub same_fields : new.fields ≡ old.fields
  pub same_ops : new.ops ≡ old.ops

-- its first operators let a tuple through
abbrev pub admits_tuple : BranchState → ℕ → List ℕ → Bool
admits_tuple s front tuple = admits s.level front s.ops (packet_row s.refined s.level s.fields tuple)

-- some tuples have come to it
abbrev pub IsTaking : BranchState → Type 0
IsTaking s = (queries : List TypedQuery) × (q : ℕ) × (b : ℕ) × (level : ℕ) × (tuples : List (List ℕ)) × HasTaken queries q b level tuples s

-- these tuples more have come to it
abbrev pub HasTakenMore : List (List ℕ) → BranchState → BranchState → Type 0
HasTakenMore more old new = (queries : List TypedQuery) (q b level : ℕ) (tuples : List (List ℕ)) → HasTaken queries q b level tuples old → HasTaken queries q b level (tuples ++ more) new

-- it gives these rows
abbrev pub GivesRows : BranchState → List Row → Type 0
GivesRows s rows = (queries : List TypedQuery) (q b level : ℕ) (tuples : List (List ℕ)) → HasTaken queries q b level tuples s
    → (rows ≡ branch_rows (query_at queries q) b level None tuples) × AllByRecursion (IsOf (end_columns (branch_at queries q b))) rows

-- a branch over rows of either kind
abbrev pub branch_in : AnyBranch → BranchState
branch_in (kinds.Short s) = s
branch_in (kinds.Wide s) = s

-- ---- a query

-- these tuples have come to the second branch of a query, where it has one
abbrev pub SecondHasTaken : List TypedQuery → ℕ → ℕ → List (List ℕ) → Option AnyBranch → Type 0
SecondHasTaken queries q level tuples None = length (query_at queries q).branches ≢ 2
SecondHasTaken queries q level tuples (Some branch) = (length (query_at queries q).branches ≡ 2) × HasTaken queries q 1 level tuples (branch_in branch)

-- these tuples have come to a query
abbrev pub QueryHasTaken : List TypedQuery → List (List ℕ) → QueryStream → Type 0
QueryHasTaken queries tuples s = HasTaken queries s.q 0 s.level tuples (branch_in s.first) × SecondHasTaken queries s.q s.level tuples s.second

-- some tuples have come to it
abbrev pub QueryIsTaking : QueryStream → Type 0
QueryIsTaking s = (queries : List TypedQuery) × (tuples : List (List ℕ)) × QueryHasTaken queries tuples s

-- these tuples more have come to it
pub record QueryHasTakenMore (more : List (List ℕ)) (old new : QueryStream) : Type 0 where
  pub same_query : new.q ≡ old.q
  pub same_level : new.level ≡ old.level
  pub taken : (queries : List TypedQuery) (tuples : List (List ℕ)) → QueryHasTaken queries tuples old → QueryHasTaken queries (tuples ++ more) new

-- it gives these rows
abbrev pub QueryGivesRows : List TypedQuery → QueryStream → List Row → Type 0
QueryGivesRows queries s rows = (tuples : List (List ℕ)) → QueryHasTaken queries tuples s
    → (rows ≡ query_rows (query_at queries s.q) s.level None tuples) × AllByRecursion (IsOf (final_columns (query_at queries s.q))) rows

-- ---- queries

-- these tuples have come to the queries from one number up to another, each at its finest level
abbrev pub HaveTaken : List TypedQuery → List (List ℕ) → ℕ → ℕ → List QueryStream → Type 0
HaveTaken queries tuples from stop [] = from ≡ stop
HaveTaken queries tuples from stop (s ∷ later) =
    (s.q ≡ from) × (s.level ≡ finest_level (query_at queries from)) × QueryHasTaken queries tuples s × HaveTaken queries tuples (from + 1) stop later

-- and to all of them
abbrev pub AllHaveTaken : List TypedQuery → List (List ℕ) → List QueryStream → Type 0
AllHaveTaken queries tuples streams = HaveTaken queries tuples 0 (length queries) streams

-- tuples have come to all queries, which have taken them but for those of the block
abbrev pub HaveCome : List TypedQuery → List (List ℕ) → Streams → Type 0
HaveCome queries tuples s = (taken : List (List ℕ)) × AllHaveTaken queries taken s.streams.items × (taken ++ s.block ≡ tuples)
