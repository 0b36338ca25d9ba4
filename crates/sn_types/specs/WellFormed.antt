-- serves proofs
-- Every column that an operator of a typed query names is a column of the rows that come to it.
use Rattle.std.specs.Prelude.{◌≡◌, ℕ, ◌<◌, ◌≤◌, List, [], ◌∷◌, length}
use Rattle.std.specs.List.{AllByRecursion}
use Rattle.sn_base.specs.declared.column.Column.{Column}
use Rattle.sn_types.specs.declared.typed_op.TOp.{TOp}
use Rattle.sn_types.specs.declared.typed_op.TOp.TheVariants.{Filter, Map, Distinct, Reduce}
use Rattle.sn_types.specs.declared.typed_query.TypedBranch.{TypedBranch}
use Rattle.sn_types.specs.declared.typed_query.TypedQuery.{TypedQuery}
use Rattle.sn_types.specs.Values.{ReadsWithin}

-- an operator reads the first n columns alone
abbrev pub StaysWithin : ℕ → TOp → Type 0
StaysWithin count (Filter conds) = AllByRecursion (λ c. c.col < count) conds
StaysWithin count (Map exprs) = AllByRecursion (ReadsWithin count) exprs
StaysWithin count Distinct = Unit {0}
StaysWithin count (Reduce r) = AllByRecursion (λ k. k < count) r.keys × (r.value < count)

-- each operator reads columns of the schema before it alone, and one schema stands after the last one
abbrev pub StayWithin : List (List Column) → List TOp → Type 0
StayWithin [] ops = ⊥
StayWithin (schema ∷ schemas) [] = schemas ≡ []
StayWithin (schema ∷ schemas) (op ∷ ops) = StaysWithin (length schema) op × StayWithin schemas ops

pub record IsWellFormedBranch (b : TypedBranch) : Type 0 where
  pub fields : length b.fields ≤ 8
  pub places : StayWithin b.schemas b.ops

pub record IsWellFormedQuery (q : TypedQuery) : Type 0 where
  pub branches : AllByRecursion IsWellFormedBranch q.branches
  pub places : StayWithin q.schemas q.posts
