-- What may stand after rows on their way, operator by operator.
use Rattle.std.proofs.Common.{◌≡◌, ℕ, zero, suc, ◌≤◌, List, [], ◌∷◌, length, take, drop, Bool, true, false, cond, refl, sym, subst, arith}
use Rattle.sn_types.specs.Cuts.{cut_after_distinct, filters_ahead, greatest_cut, is_stateful}
use Rattle.sn_types.specs.declared.typed_op.TOp.{TOp}
use Rattle.sn_types.specs.declared.typed_op.TOp.TheVariants as ops
use Rattle.sn_cost_counts.specs.Coming.{ahead}
use Rattle.sn_cost_counts.specs.Shared.{is_distinct}

-- no more may stand after a reduce, or after a distinct, than after neither
filters_within : (os : List TOp) → filters_ahead os ≤ greatest_cut os
filters_within [] = omega arith
filters_within (ops.Filter conds ∷ os) = let h = filters_within os in omega (arith, h)
filters_within (ops.Map exprs ∷ os) = omega arith
filters_within (ops.Distinct ∷ os) = omega arith
filters_within (ops.Reduce r ∷ os) = omega arith

after_within : (os : List TOp) → cut_after_distinct os ≤ greatest_cut os
after_within [] = omega arith
after_within (ops.Filter conds ∷ os) = let h = after_within os in omega (arith, h)
after_within (ops.Map exprs ∷ os) = let h = after_within os in omega (arith, h)
after_within (ops.Distinct ∷ os) = omega arith
after_within (ops.Reduce r ∷ os) = omega arith

-- ---- one operator on

-- as long as no key overflows
pub together_next : (op : TOp) (os : List TOp) → length (op ∷ os) ≤ greatest_cut (op ∷ os) → length os ≤ greatest_cut os
together_next (ops.Filter conds) os h = omega (arith, h)
together_next (ops.Map exprs) os h = omega (arith, h)
together_next ops.Distinct os h = let within = after_within os in omega (arith, h, within)
together_next (ops.Reduce r) os h = let within = filters_within os in omega (arith, h, within)

-- where keys overflow at it
pub overflowed_next : (op : TOp) (os : List TOp) (distinct : Bool) → is_stateful op ≡ true → distinct ≡ is_distinct op → length (op ∷ os) ≤ greatest_cut (op ∷ os) → length os ≤ cond distinct (cut_after_distinct os) (filters_ahead os)
overflowed_next (ops.Filter conds) os distinct is which h = absurd cc
overflowed_next (ops.Map exprs) os distinct is which h = absurd cc
overflowed_next ops.Distinct os distinct is which h = subst (λ b. length os ≤ cond b (cut_after_distinct os) (filters_ahead os)) (sym which) (omega (arith, h))
overflowed_next (ops.Reduce r) os distinct is which h = subst (λ b. length os ≤ cond b (cut_after_distinct os) (filters_ahead os)) (sym which) (omega (arith, h))

-- and after a reduce that follows, filters alone
pub no_registers : (op : TOp) (os : List TOp) → length (op ∷ os) ≤ filters_ahead (op ∷ os) → is_stateful op ≡ false
no_registers (ops.Filter conds) os h = refl
no_registers (ops.Map exprs) os h = refl
no_registers ops.Distinct os h = absurd (omega (arith, h))
no_registers (ops.Reduce r) os h = absurd (omega (arith, h))

-- ---- the longest prefix

filters_taken : (n : ℕ) (os : List TOp) → n ≤ filters_ahead os → length (take n os) ≤ filters_ahead (take n os)
filters_taken zero os h = omega arith
filters_taken (suc n) [] h = omega arith
filters_taken (suc n) (ops.Filter conds ∷ os) h = let rest = filters_taken n os (omega (arith, h)) in omega (arith, rest)
filters_taken (suc n) (ops.Map exprs ∷ os) h = absurd (omega (arith, h))
filters_taken (suc n) (ops.Distinct ∷ os) h = absurd (omega (arith, h))
filters_taken (suc n) (ops.Reduce r ∷ os) h = absurd (omega (arith, h))

after_taken : (n : ℕ) (os : List TOp) → n ≤ cut_after_distinct os → length (take n os) ≤ cut_after_distinct (take n os)
after_taken zero os h = omega arith
after_taken (suc n) [] h = omega arith
after_taken (suc n) (ops.Filter conds ∷ os) h = let rest = after_taken n os (omega (arith, h)) in omega (arith, rest)
after_taken (suc n) (ops.Map exprs ∷ os) h = let rest = after_taken n os (omega (arith, h)) in omega (arith, rest)
after_taken (suc n) (ops.Distinct ∷ os) h = absurd (omega (arith, h))
after_taken (suc n) (ops.Reduce r ∷ os) h = let rest = filters_taken n os (omega (arith, h)) in omega (arith, rest)

-- what stands before a cut may stand in a switch
pub cut_taken : (n : ℕ) (os : List TOp) → n ≤ greatest_cut os → length (take n os) ≤ greatest_cut (take n os)
cut_taken zero os h = omega arith
cut_taken (suc n) [] h = omega arith
cut_taken (suc n) (ops.Filter conds ∷ os) h = let rest = cut_taken n os (omega (arith, h)) in omega (arith, rest)
cut_taken (suc n) (ops.Map exprs ∷ os) h = let rest = cut_taken n os (omega (arith, h)) in omega (arith, rest)
cut_taken (suc n) (ops.Distinct ∷ os) h = let rest = after_taken n os (omega (arith, h)) in omega (arith, rest)
cut_taken (suc n) (ops.Reduce r ∷ os) h = let rest = filters_taken n os (omega (arith, h)) in omega (arith, rest)

-- and so may what is left of it from the first distinct or reduce on
pub left_of_cut : (os : List TOp) → length os ≤ greatest_cut os → length (drop (ahead os) os) ≤ greatest_cut (drop (ahead os) os)
left_of_cut [] h = h
left_of_cut (ops.Filter conds ∷ os) h = left_of_cut os (omega (arith, h))
left_of_cut (ops.Map exprs ∷ os) h = left_of_cut os (omega (arith, h))
left_of_cut (ops.Distinct ∷ os) h = h
left_of_cut (ops.Reduce r ∷ os) h = h
