-- to be believed
-- Queries of which a coarser level answers every prefix of what a finer level answers.
use Rattle.std.specs.Prelude.{ℕ, List, [], ◌∷◌, length, Bool, true, false, ◌&&◌, ◌==◌, nat_le}
use Rattle.std.specs.List.{list_all}
use Rattle.sn_base.specs.declared.any_fold.AnyFold.{AnyFold}
use Rattle.sn_base.specs.declared.any_fold.AnyFold.TheVariants.{SatSum, Max, Min, Or}
use Rattle.sn_query_grammar.specs.declared.ast.Cmp.{Cmp}
use Rattle.sn_query_grammar.specs.declared.ast.Cmp.TheVariants.{Eq, Ne, Lt, Le, Gt, Ge}
use Rattle.sn_types.specs.Typed.{branch_of, finest_level}
use Rattle.sn_types.specs.Values.{all_bits, constant_at}
use Rattle.sn_types.specs.declared.typed_op.TCond.{TCond}
use Rattle.sn_types.specs.declared.typed_op.TOp.{TOp}
use Rattle.sn_types.specs.declared.typed_op.TOp.TheVariants as ops
use Rattle.sn_types.specs.declared.typed_query.TypedQuery.{TypedQuery}

-- a sum, the greater number and the bitwise or don't fall where a value is added
abbrev pub is_rising : AnyFold → Bool
is_rising (SatSum f) = true
is_rising (Max f) = true
is_rising (Min f) = false
is_rising (Or f) = true

abbrev pub is_above : Cmp → Bool
is_above Eq = false
is_above Ne = false
is_above Lt = false
is_above Le = false
is_above Gt = true
is_above Ge = true

-- a condition asks whether the column at this place, with no `&`, is above a constant that no level has greater than the finest
abbrev pub is_threshold : List ℕ → ℕ → ℕ → TCond → Bool
is_threshold levels finest place c =
    (c.col == place) && ((c.and == all_bits) && (is_above c.cmp
    && list_all (λ level. nat_le (constant_at level c.relaxed c.own) (constant_at finest c.relaxed c.own)) levels))

-- filters of such conditions alone
abbrev pub are_thresholds : List ℕ → ℕ → ℕ → List TOp → Bool
are_thresholds levels finest place [] = true
are_thresholds levels finest place (ops.Filter conds ∷ os) = list_all (is_threshold levels finest place) conds && are_thresholds levels finest place os
are_thresholds levels finest place (ops.Map exprs ∷ os) = false
are_thresholds levels finest place (ops.Distinct ∷ os) = false
are_thresholds levels finest place (ops.Reduce r ∷ os) = false

-- Filters without relaxed constants, maps, and a distinct where one may still stand; then a reduce by a fold that rises, and
-- then filters that ask whether its value is above a constant.
abbrev pub rises_from : List ℕ → ℕ → Bool → List TOp → Bool
rises_from levels finest may [] = false
rises_from levels finest may (ops.Filter conds ∷ os) = list_all (λ c. length c.relaxed == 0) conds && rises_from levels finest may os
rises_from levels finest may (ops.Map exprs ∷ os) = rises_from levels finest may os
rises_from levels finest may (ops.Distinct ∷ os) = may && rises_from levels finest false os
rises_from levels finest may (ops.Reduce r ∷ os) = is_rising r.fold && are_thresholds levels finest (length r.keys) os

-- one branch of this kind
abbrev pub is_monotone : TypedQuery → Bool
is_monotone query = (length query.branches == 1) && rises_from query.levels (finest_level query) true (branch_of query 0).ops
