-- to be believed
use Rattle.std.specs.Prelude.{ℕ, min, max, bit_or}
use Rattle.sn_base.specs.Folds.{FoldLaws, HasBits, top_of, capped_sum, capped_sum_laws, max_laws, min_laws, bit_or_laws}
use Rattle.sn_base.specs.declared.any_fold.AnyFold.{AnyFold}
use Rattle.sn_base.specs.declared.any_fold.AnyFold.TheVariants.{SatSum, Max, Min, Or}

-- the numbers that the fold has
abbrev pub any_has : AnyFold → ℕ → Type 0
any_has (SatSum f) = HasBits f.v
any_has (Max f) = HasBits f.v
any_has (Min f) = HasBits f.v
any_has (Or f) = HasBits f.v

-- the fold of no value
abbrev pub any_unit : AnyFold → ℕ
any_unit (SatSum f) = 0
any_unit (Max f) = 0
any_unit (Min f) = top_of f.v
any_unit (Or f) = 0

-- two values combined
abbrev pub any_step : AnyFold → ℕ → ℕ → ℕ
any_step (SatSum f) a b = capped_sum f.v a b
any_step (Max f) a b = max a b
any_step (Min f) a b = min a b
any_step (Or f) a b = bit_or a b

pub any_laws : (f : AnyFold) → FoldLaws (any_has f) (any_unit f) (any_step f)
any_laws (SatSum f) = capped_sum_laws f.v
any_laws (Max f) = max_laws f.v
any_laws (Min f) = min_laws f.v
any_laws (Or f) = bit_or_laws f.v
