-- Sums of capped numbers.
use Rattle.std.proofs.Common.{◌≡◌, ℕ, ◌+◌, ◌-◌, ◌^◌, List, [], ◌∷◌, map, min, sum, refl, ap, sym, ◌∙◌, arith}
use Rattle.std.proofs.lemmas.List.Sums.{sum_by-cons}
use Rattle.sn_emit.specs.declared.sender.Sender.{Sender}
use Rattle.sn_emit.specs.Lanes.{emitted_by}
use Rattle.sn_plan_fit.specs.Capped.{capped}

pub sum-cons : (n : ℕ) (ns : List ℕ) → sum (n ∷ ns) ≡ n + sum ns
sum-cons n ns = sum_by-cons (λ x. x) n ns

min_sum : (m n a b : ℕ) → min a m ≡ min b m → min (min n m + a) m ≡ min (n + b) m
min_sum m n a b e = omega (arith, e)

sum_capped : (counts : List ℕ) → capped (sum (map capped counts)) ≡ capped (sum counts)
sum_capped [] = refl
sum_capped (n ∷ counts) =
    ap capped (sum-cons (capped n) (map capped counts)) ∙ min_sum (2 ^ 64 - 1) n (sum (map capped counts)) (sum counts) (sum_capped counts) ∙ ap capped (sym (sum-cons n counts))

pub emitted_counts : (lanes : List Sender) (counts : List ℕ) → map (λ s. s.given) lanes ≡ map capped counts → emitted_by lanes ≡ capped (sum counts)
emitted_counts lanes counts e = ap (λ (ns : List ℕ). capped (sum ns)) e ∙ sum_capped counts
