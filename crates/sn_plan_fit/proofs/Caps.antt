-- Capped sums.
use Rattle.std.proofs.Common.{◌≡◌, ℕ, zero, suc, ◌+◌, ◌*◌, ◌≤◌, ◌<◌, List, [], ◌∷◌, ◌++◌, map, length, refl, ap, sym, ◌∙◌, arith, length-append, Bool, true, false, cond, nat_lt, ◌⊎◌, inl, inr, ◌^◌, ◌-◌}
use Rattle.std.specs.Prelude.{◌==◌}
use Rattle.std.specs.List.{sum_by}
use Rattle.std.proofs.lemmas.List.Sums.{sum_by-cons, sum_by-append}
use Rattle.std.proofs.lemmas.List.Elements.{filter-append}
use Rattle.std.proofs.Math.Nat.{mul-le-mul_left}
use Rattle.sn_base.proofs.Lists.{by_test}
use Rattle.sn_plan_fit.specs.Capped.{capped}
use Rattle.sn_plan_fit.specs.Registers.{Register, in_stage, standing_in, count_in, bits_in}

cap_on : (a x r : ℕ) → capped (capped (a + capped x) + r) ≡ capped (a + (x + r))
cap_on a x r = omega arith

large : (size n : ℕ) → 1 ≤ size → n ≤ size * n
large size n h = let k = mul-le-mul_left n h in omega (arith, k)

le-or-lt : (n m : ℕ) → (n ≤ m) ⊎ (m < n)
le-or-lt n m = by_test (nat_lt m n) (λ is. inr (grind (arith, is))) (λ isnt. inl (grind (arith, isnt)))

-- a size of at least 1 makes no number less
mul_step : (size n : ℕ) → 1 ≤ size → (n ≤ 2 ^ 64 - 1) ⊎ (2 ^ 64 - 1 < n) → capped (size * capped n) ≡ capped (size * n)
mul_step size n h (inl small) =
    let same : capped n ≡ n = omega (arith, small) in
    ap (λ k. capped (size * k)) same
mul_step size n h (inr big) =
    let a = large size n h in
    let b = large size (capped n) h in
    omega (arith, a, b, big)

pub mul_capped : (size n : ℕ) → capped (size * capped n) ≡ capped (size * n)
mul_capped zero n = omega arith
mul_capped (suc size) n = mul_step (suc size) n (omega arith) (le-or-lt n (2 ^ 64 - 1))

pub count_append : (stage : ℕ) (xs ys : List Register) → count_in stage (xs ++ ys) ≡ count_in stage xs + count_in stage ys
count_append stage xs ys = ap length (filter-append (λ (r : Register). r.stage == stage) xs ys) ∙ length-append (standing_in stage xs) (standing_in stage ys)

pub bits_append : (stage : ℕ) (xs ys : List Register) → bits_in stage (xs ++ ys) ≡ bits_in stage xs + bits_in stage ys
bits_append stage xs ys =
    let bits_of : Register → ℕ = λ r. r.bits in
    ap (λ (rs : List Register). sum_by bits_of rs) (filter-append (λ (r : Register). r.stage == stage) xs ys) ∙ sum_by-append bits_of (standing_in stage xs) (standing_in stage ys)

pub count_on : (stage a : ℕ) (xs ys : List Register) → capped (capped (a + capped (count_in stage xs)) + count_in stage ys) ≡ capped (a + count_in stage (xs ++ ys))
count_on stage a xs ys = cap_on a (count_in stage xs) (count_in stage ys) ∙ ap (λ n. capped (a + n)) (sym (count_append stage xs ys))

pub bits_on : (stage a : ℕ) (xs ys : List Register) → capped (capped (a + capped (bits_in stage xs)) + bits_in stage ys) ≡ capped (a + bits_in stage (xs ++ ys))
bits_on stage a xs ys = cap_on a (bits_in stage xs) (bits_in stage ys) ∙ ap (λ n. capped (a + n)) (sym (bits_append stage xs ys))

-- a chain with capped bits
pub chain_count : (stage a b : ℕ) (stages : List ℕ) → count_in stage (map (in_stage a) stages) ≡ count_in stage (map (in_stage b) stages)
chain_count stage a b [] = refl
chain_count stage a b (s ∷ stages) = by_stage (s == stage) (chain_count stage a b stages)
  where
    by_stage : (t : Bool) → count_in stage (map (in_stage a) stages) ≡ count_in stage (map (in_stage b) stages)
        → length (cond t (in_stage a s ∷ standing_in stage (map (in_stage a) stages)) (standing_in stage (map (in_stage a) stages)))
        ≡ length (cond t (in_stage b s ∷ standing_in stage (map (in_stage b) stages)) (standing_in stage (map (in_stage b) stages)))
    by_stage true e = ap suc e
    by_stage false e = e

pub chain_bits : (stage all : ℕ) (stages : List ℕ) → capped (bits_in stage (map (in_stage (capped all)) stages)) ≡ capped (bits_in stage (map (in_stage all) stages))
chain_bits stage all [] = refl
chain_bits stage all (s ∷ stages) = by_stage (s == stage) (chain_bits stage all stages)
  where
    by_stage : (t : Bool) → capped (bits_in stage (map (in_stage (capped all)) stages)) ≡ capped (bits_in stage (map (in_stage all) stages))
        → capped (sum_by (λ r. r.bits) (cond t (in_stage (capped all) s ∷ standing_in stage (map (in_stage (capped all)) stages)) (standing_in stage (map (in_stage (capped all)) stages))))
        ≡ capped (sum_by (λ r. r.bits) (cond t (in_stage all s ∷ standing_in stage (map (in_stage all) stages)) (standing_in stage (map (in_stage all) stages))))
    by_stage true e =
        let f : Register → ℕ = λ r. r.bits in
        let a = sum_by-cons f (in_stage (capped all) s) (standing_in stage (map (in_stage (capped all)) stages)) in
        let b = sum_by-cons f (in_stage all s) (standing_in stage (map (in_stage all) stages)) in
        omega (arith, a, b, e)
    by_stage false e = e

pub register_capped : (size key value : ℕ) → capped (size * capped (capped (capped key + value) + 1)) ≡ capped (size * (key + value + 1))
register_capped size key value = ap (λ n. capped (size * n)) same ∙ mul_capped size (key + value + 1)
  where
    same : capped (capped (capped key + value) + 1) ≡ capped (key + value + 1)
    same = omega arith
