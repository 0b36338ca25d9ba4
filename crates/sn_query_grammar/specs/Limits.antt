-- to be believed
-- The limits that the grammar of query texts keeps, over the value of a text.
use Rattle.std.specs.Prelude.{◌≡◌, ℕ, ◌≤◌, ◌<◌, ◌^◌, List, length, map, false, Option, Some, None, IfSome}
use Rattle.std.specs.List.{AllByRecursion, list_any}
use Rattle.sn_base.specs.Groups.{Apart, same_row}
use Rattle.sn_query_grammar.specs.declared.ast.QueryFile.{QueryFile}
use Rattle.sn_query_grammar.specs.declared.ast.Query.{Query}
use Rattle.sn_query_grammar.specs.declared.ast.Refine.{Refine}
use Rattle.sn_query_grammar.specs.declared.ast.Branch.{Branch}
use Rattle.sn_query_grammar.specs.declared.ast.Join.{Join}
use Rattle.sn_query_grammar.specs.declared.ast.Cond.{Cond}
use Rattle.sn_query_grammar.specs.declared.ast.Expr.{Expr}
use Rattle.sn_query_grammar.specs.declared.ast.Expr.TheVariants.{Const, Copy, Mask, Shift, Sum, Ratio}
use Rattle.sn_query_grammar.specs.declared.ast.Reduce.{Reduce}
use Rattle.sn_query_grammar.specs.declared.ast.FoldWord.{FoldWord}
use Rattle.sn_query_grammar.specs.declared.ast.FoldWord.TheVariants as fold
use Rattle.sn_query_grammar.specs.declared.ast.What.{What}
use Rattle.sn_query_grammar.specs.declared.ast.What.TheVariants as what

-- a number from a least to a greatest one
pub record Within (least most n : ℕ) : Type 0 where
  pub from_least : least ≤ n
  pub to_most : n ≤ most

pub record CondLimits (c : Cond) : Type 0 where
  pub count : length c.relaxed ≤ 4
  pub levels : AllByRecursion (λ r. r.level ≤ 128) c.relaxed

-- a constant has 64 bits, and a shift is by less than 64; a sum of columns and a ratio stand after a join alone
abbrev pub IsBranchExpr : Expr → Type 0
IsBranchExpr (Const n) = n < 2 ^ 64
IsBranchExpr (Copy a) = Unit {0}
IsBranchExpr (Mask a bits) = Unit {0}
IsBranchExpr (Shift a k) = k < 64
IsBranchExpr (Sum a b) = ⊥
IsBranchExpr (Ratio a k b) = ⊥

abbrev pub IsPostExpr : Expr → Type 0
IsPostExpr (Const n) = n < 2 ^ 64
IsPostExpr (Copy a) = Unit {0}
IsPostExpr (Mask a bits) = Unit {0}
IsPostExpr (Shift a k) = k < 64
IsPostExpr (Sum a b) = Unit {0}
IsPostExpr (Ratio a k b) = Unit {0}

-- a sum has a width of 1 to 64, and no other fold has one
abbrev pub FoldWidth : FoldWord → ℕ → Type 0
FoldWidth fold.Sum width = Within 1 64 width
FoldWidth fold.Max width = width ≡ 0
FoldWidth fold.Min width = width ≡ 0
FoldWidth fold.Or width = width ≡ 0

pub record ReduceLimits (r : Reduce) : Type 0 where
  pub count : Within 1 8 (length r.keys)
  pub apart : Apart same_row r.keys
  pub no_key : list_any (same_row r.value) r.keys ≡ false
  pub width : FoldWidth r.fold r.width

-- an operator of a branch
abbrev pub BranchOp : What → Type 0
BranchOp (what.Filter conds) = Within 1 8 (length conds) × AllByRecursion CondLimits conds
BranchOp (what.Map cols) = Within 1 8 (length cols) × Apart same_row (map (λ c. c.name) cols) × AllByRecursion (λ c. IsBranchExpr c.expr) cols
BranchOp what.Distinct = Unit {0}
BranchOp (what.Reduce r) = ReduceLimits r

-- an operator after a join
abbrev pub PostOp : What → Type 0
PostOp (what.Filter conds) = Within 1 8 (length conds) × AllByRecursion CondLimits conds
PostOp (what.Map cols) = Within 1 8 (length cols) × Apart same_row (map (λ c. c.name) cols) × AllByRecursion (λ c. IsPostExpr c.expr) cols
PostOp what.Distinct = ⊥
PostOp (what.Reduce r) = ⊥

pub record RefineLimits (r : Refine) : Type 0 where
  pub count : Within 1 4 (length r.levels)
  pub levels : AllByRecursion (λ l. l ≤ 128) r.levels

pub record BranchLimits (b : Branch) : Type 0 where
  pub count : Within 1 12 (length b.ops)
  pub each : AllByRecursion (λ op. BranchOp op.what) b.ops

pub record JoinLimits (j : Join) : Type 0 where
  pub count : Within 1 8 (length j.keys)
  pub apart : Apart same_row j.keys
  pub posts : length j.post ≤ 12
  pub each : AllByRecursion (λ op. PostOp op.what) j.post

-- one branch without a join, or two with one
abbrev pub AreJoined : List Branch → Option Join → Type 0
AreJoined branches None = length branches ≡ 1
AreJoined branches (Some j) = (length branches ≡ 2) × JoinLimits j

pub record QueryLimits (q : Query) : Type 0 where
  pub refine : IfSome q.refine RefineLimits
  pub joined : AreJoined q.branches q.join
  pub branches : AllByRecursion BranchLimits q.branches

-- a file as the grammar gives it
pub record KeepsLimits (file : QueryFile) : Type 0 where
  pub window : Within 1 3600000000 file.window_us
  pub count : Within 1 8 (length file.queries)
  pub names : Apart same_row (map (λ q. q.name) file.queries)
  pub each : AllByRecursion QueryLimits file.queries
