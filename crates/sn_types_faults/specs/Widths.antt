-- to be believed
-- The widths and address marks of columns.
use Rattle.std.specs.Prelude.{ℕ, ◌-◌, ◌≤◌, min, max}
use Rattle.std.proofs.Common.{arith}
use Rattle.std.specs.Int.{w64, leading_zeros}
use Rattle.sn_base.specs.declared.any_fold.AnyFold.{AnyFold}
use Rattle.sn_base.specs.declared.any_fold.AnyFold.TheVariants as folds
use Rattle.sn_query_grammar.specs.declared.ast.FoldWord.{FoldWord}
use Rattle.sn_query_grammar.specs.declared.ast.FoldWord.TheVariants.{Sum, Max, Min, Or}

-- a width that the values of a fold can have, which is 1 to 64
abbrev pub lawful : ℕ → ℕ
lawful width = min (max 1 width) 64

pub lawful_range : (width : ℕ) → (1 ≤ lawful width) × (lawful width ≤ 64)
lawful_range width = (omega arith, omega arith)

-- the least width of at least 1 that holds a number
abbrev pub constant_width : ℕ → ℕ
constant_width n = max 1 (64 - leading_zeros w64 n)

-- the width of a column that a fold makes: a sum has its own, and each other fold the width of its column
abbrev pub folded_width : FoldWord → ℕ → ℕ → ℕ
folded_width Sum own column = own
folded_width Max own column = column
folded_width Min own column = column
folded_width Or own column = column

-- the fold of a word over values of this many bits
abbrev pub fold_of : FoldWord → ℕ → AnyFold
fold_of Sum width = folds.SatSum (record { v = lawful width; in_range = lawful_range width })
fold_of Max width = folds.Max (record { v = lawful width; in_range = lawful_range width })
fold_of Min width = folds.Min (record { v = lawful width; in_range = lawful_range width })
fold_of Or width = folds.Or (record { v = lawful width; in_range = lawful_range width })
