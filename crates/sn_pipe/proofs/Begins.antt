-- A column that is folded.
use Rattle.std.proofs.Common.{◌≡◌, ℕ, ◌-◌, ◌^◌, min, ap, ◌∙◌}
use Rattle.sn_base.specs.AnyFold.{any_has}
use Rattle.sn_base.specs.declared.any_fold.AnyFold.{AnyFold}
use Rattle.sn_types.proofs.RowsAfter.{had_below, stays_whole}

-- a number that a fold has is itself in 64 bits
pub word_had : (f : AnyFold) (word number x : ℕ) → word ≡ min number (2 ^ 64 - 1) → number ≡ x → any_has f x → word ≡ x
word_had f word number x is at had = is ∙ ap (λ n. min n (2 ^ 64 - 1)) at ∙ stays_whole x (had_below f x had)
