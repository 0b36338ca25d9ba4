-- The walk over the stages, table by table.
use Rattle.std.proofs.Common.{◌≡◌, ℕ, zero, suc, ◌+◌, ◌-◌, ◌^◌, ◌≤◌, ◌<◌, List, [], ◌∷◌, length, get_or, min, Bool, true, false, refl, ap, sym, ◌∙◌, subst, arith}
use Rattle.std.specs.Prelude.{nat_lt, nat_eq, if◌then◌else◌}
use Rattle.std.proofs.Math.ListN.{set}
use Rattle.std.proofs.lemmas.List.{get_or-set_same, get_or-set_other}
use Rattle.std.proofs.lemmas.List.Edits.{fill_by_more}
use Rattle.sn_base.proofs.Tests.{less}
use Rattle.sn_base.proofs.Lists.{by_test as cases, nat_same}
use Rattle.sn_switch.specs.declared.switch.Switch.{Switch}
use Rattle.sn_plan_space.specs.declared.known.Slot.{Slot}
use Rattle.sn_plan_space.specs.declared.known.Slot.TheVariants.{Plain, Keyed}
use Rattle.sn_prices_grammar.specs.declared.prices.Prices.{Prices}
use Rattle.sn_prices.specs.Limits.{forbidden, register_price}
use Rattle.sn_prices.specs.Least.{least_or}
use Rattle.sn_prices_bound.specs.Walks.{known_stages, IsWalk}

-- ---- the least of some numbers

pub least_or_small : (none : ℕ) (f : ℕ → ℕ) (n : ℕ) → least_or none f n ≤ none
least_or_small none f zero = omega arith
least_or_small none f (suc n) = let k = least_or_small none f n in omega arith

pub least_or_same : (none : ℕ) (f g : ℕ → ℕ) (n : ℕ) → ((k : ℕ) → f k ≡ g k) → least_or none f n ≡ least_or none g n
least_or_same none f g zero h = refl
least_or_same none f g (suc n) h = let a = h n in let b = least_or_same none f g n h in omega arith

-- the first of them, and those after it
least_or_first : (none : ℕ) (f : ℕ → ℕ) (n : ℕ) → least_or none f (suc n) ≡ min (f 0) (least_or none (λ k. f (suc k)) n)
least_or_first none f zero = refl
least_or_first none f (suc n) = let k = least_or_first none f n in omega arith

-- ---- tables

module _ (s : Switch) (p : Prices) where
  pub known_small : (least : ℕ) (slots : List Slot) → known_stages s p least slots ≤ forbidden
  known_small least [] = by_test (nat_lt s.stages least)
    where
      by_test : (b : Bool) → (if b then forbidden else 0) ≤ forbidden
      by_test true = omega arith
      by_test false = omega arith
  known_small least (Plain ∷ slots) = known_small (least + 1) slots
  known_small least (Keyed bits ∷ slots) =
      least_or_small forbidden (λ k. register_price s p (record { stage = least + k; bits = bits }) + known_stages s p (least + k + 1) slots) (s.stages - least)

  -- a register has no stage past the last one
  pub register_past : (least bits : ℕ) (slots : List Slot) → s.stages ≤ least → known_stages s p least (Keyed bits ∷ slots) ≡ forbidden
  register_past least bits slots h =
      let none : s.stages - least ≡ 0 = omega arith in
      ap (least_or forbidden (λ k. register_price s p (record { stage = least + k; bits = bits }) + known_stages s p (least + k + 1) slots)) none

  pub known_past : (least : ℕ) (slots : List Slot) → s.stages < least → known_stages s p least slots ≡ forbidden
  known_past least [] h = ap (λ t. if t then forbidden else 0) (less s.stages least h)
  known_past least (Plain ∷ slots) h = known_past (least + 1) slots (omega arith)
  known_past least (Keyed bits ∷ slots) h = register_past least bits slots (omega arith)

  -- a register in this stage, or in a later one
  register_here : (least bits : ℕ) (slots : List Slot) → least < s.stages
      → known_stages s p least (Keyed bits ∷ slots)
      ≡ min (register_price s p (record { stage = least; bits = bits }) + known_stages s p (least + 1) slots) (known_stages s p (least + 1) (Keyed bits ∷ slots))
  register_here least bits slots h =
      let f : ℕ → ℕ = λ k. register_price s p (record { stage = least + k; bits = bits }) + known_stages s p (least + k + 1) slots in
      let g : ℕ → ℕ = λ k. register_price s p (record { stage = least + 1 + k; bits = bits }) + known_stages s p (least + 1 + k + 1) slots in
      let one : ℕ → ℕ = λ stage. register_price s p (record { stage = stage; bits = bits }) + known_stages s p (stage + 1) slots in
      let more : s.stages - least ≡ suc (s.stages - (least + 1)) = omega arith in
      let first : f 0 ≡ one least = ap one (let e : least + 0 ≡ least = omega arith in e) in
      let rest = least_or_same forbidden (λ k. f (suc k)) g (s.stages - (least + 1)) (λ k. ap one (let e : least + suc k ≡ least + 1 + k = omega arith in e)) in
      let parts = ap (least_or forbidden f) more ∙ least_or_first forbidden f (s.stages - (least + 1)) in
      parts ∙ ap (λ n. min n (least_or forbidden (λ k. f (suc k)) (s.stages - (least + 1)))) first ∙ ap (min (one least)) rest

  pub register_step : (least bits price after : ℕ) (slots : List Slot) (walk : List ℕ) → least < s.stages → price ≡ register_price s p (record { stage = least; bits = bits })
      → price ≤ forbidden → IsWalk s p slots walk → after ≡ get_or walk (least + 1) 0 → s.stages ≤ 32 → (later : ℕ) → later ≡ known_stages s p (least + 1) (Keyed bits ∷ slots)
      → min (min (price + after) (2 ^ 128 - 1)) later ≡ known_stages s p least (Keyed bits ∷ slots)
  register_step least bits price after slots walk h e small is a limit later l =
      let k = is.each (least + 1) (omega arith) in
      let few = known_small (least + 1) slots in
      let here = register_here least bits slots h in omega arith

-- ---- the arrays

pub filled : (f : ℕ → ℕ) (xs : List ℕ) (i v : ℕ) → length xs ≡ 33 → i < 33 → v ≡ f i → ((k : ℕ) → k < i → get_or xs k 0 ≡ f k) → (k : ℕ) → k < i + 1 → get_or (set xs i v) k 0 ≡ f k
filled f xs i v long h e each k l = ap (λ w. get_or (set xs i w) k 0) e ∙ fill_by_more f xs i 0 (omega arith) each k l

-- downward: from this place on
pub filled_from : (f : ℕ → ℕ) (xs : List ℕ) (i v : ℕ) → length xs ≡ 33 → i < 32 → v ≡ f i → ((k : ℕ) → i + 1 ≤ k → k ≤ 32 → get_or xs k 0 ≡ f k) → (k : ℕ) → i ≤ k → k ≤ 32 → get_or (set xs i v) k 0 ≡ f k
filled_from f xs i v long h e each k l m = cases (nat_eq i k)
    (λ same. let here = nat_same i k same in subst (λ j. get_or (set xs i v) j 0 ≡ f j) here (get_or-set_same xs i v 0 (omega arith) ∙ e))
    (λ other. get_or-set_other xs i k v 0 (λ here. apart i k other (sym here)) ∙ each k (above i k l (apart i k other)) m)
  where
    apart : (a b : ℕ) → nat_eq a b ≡ false → a ≡ b → ⊥
    apart a b t u = grind (arith, t)

    above : (a b : ℕ) → a ≤ b → (a ≡ b → ⊥) → a + 1 ≤ b
    above a b t u = omega arith

-- a register may have this stage too
pub register_more : (s : Switch) (p : Prices) (bits : ℕ) (slots : List Slot) (after walk : List ℕ) (stage price here value : ℕ) → s.stages ≤ 32 → 1 ≤ stage → stage ≤ s.stages
    → IsWalk s p slots after → price ≡ register_price s p (record { stage = stage - 1; bits = bits }) → price ≤ forbidden
    → here ≡ min (price + get_or after (stage - 1 + 1) 0) (2 ^ 128 - 1) → value ≡ min here (get_or walk (stage - 1 + 1) 0) → length walk ≡ 33
    → ((k : ℕ) → stage ≤ k → k ≤ 32 → get_or walk k 0 ≡ known_stages s p k (Keyed bits ∷ slots))
    → (k : ℕ) → stage - 1 ≤ k → k ≤ 32 → get_or (set walk (stage - 1) value) k 0 ≡ known_stages s p k (Keyed bits ∷ slots)
register_more s p bits slots after walk stage price here value few some below is e small h v long each =
    let later = each (stage - 1 + 1) (omega arith) (omega arith) in
    let step = register_step s p (stage - 1) bits price (get_or after (stage - 1 + 1) 0) slots after (omega arith) e small is refl few (get_or walk (stage - 1 + 1) 0) later in
    let sum = ap (λ n. min n (get_or walk (stage - 1 + 1) 0)) h in
    filled_from (λ k. known_stages s p k (Keyed bits ∷ slots)) walk (stage - 1) value long (omega arith) (v ∙ sum ∙ step) (λ k l m. each k (omega arith) m)
