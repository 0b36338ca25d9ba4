-- The laws of prices on plans.
use Rattle.std.proofs.Common.{◌≡◌, ℕ, zero, suc, ◌+◌, ◌-◌, ◌*◌, ◌≤◌, ◌<◌, List, [], ◌∷◌, map, Bool, true, false, refl, ap, sym, ◌∙◌, subst, arith, inl, inr, min}
use Rattle.std.specs.Prelude.{◌⊎◌, nat_lt, take, if◌then◌else◌}
use Rattle.std.specs.List.{sum_by}
use Rattle.std.proofs.Math.Nat.{eq-or-lt_of_le}
use Rattle.std.proofs.lemmas.List.Sums.{sum_by-cons}
use Rattle.sn_switch.specs.declared.switch.Switch.{Switch}
use Rattle.sn_plan_fit.specs.Registers.{metadata}
use Rattle.sn_tree_space.specs.declared.follow.Follow.TheVariants.{Complete}
use Rattle.sn_tree_space.specs.Readers.{MayFollow}
use Rattle.sn_plan_choices.specs.Options.{Slot, plain, keyed, option_at, paths}
use Rattle.sn_plan_choices.specs.Planning.{Task, Taken, for_path, for_piece, for_stage, in_register, in_metadata, past_stages, next_stage, past_by, pieces_of, slots_of, settings, choices_of, leaves_of, cost_of, takes_of, planning}
use Rattle.sn_plan_choices.proofs.Planning.{least_at}
use Rattle.sn_prices_grammar.specs.declared.prices.Prices.{Prices}
use Rattle.sn_prices.specs.Limits.{forbidden, register_price, worth}
use Rattle.sn_prices.specs.Least.{least_or, least_stages, option_price, least_piece, least_query}
use Rattle.sn_prices.proofs.Priced.{Pricing, PricingLaws}
use Rattle.sn_prices.proofs.Kept.{price_of, taken_kept}

least_or_at : (none : ℕ) (f : ℕ → ℕ) (n x : ℕ) → x < n → least_or none f n ≤ f x
least_or_at none f zero x h = absurd (omega arith)
least_or_at none f (suc n) x h = by_place (eq-or-lt_of_le (let l : x ≤ n = omega arith in l)) (λ less. least_or_at none f n x less)
  where
    by_place : (x ≡ n) ⊎ (x < n) → (x < n → least_or none f n ≤ f x) → min (f n) (least_or none f n) ≤ f x
    by_place (inl e) rest = subst (λ (k : ℕ). min (f n) (least_or none f n) ≤ f k) (sym e) (omega arith)
    by_place (inr less) rest = let k = rest less in omega arith

sum_of_map : {A B : Type 0} (f : B → ℕ) (g : A → B) (xs : List A) → sum_by f (map g xs) ≡ sum_by (λ x. f (g x)) xs
sum_of_map f g [] = refl
sum_of_map f g (x ∷ xs) = sum_by-cons f (g x) (map g xs) ∙ ap (λ n. f (g x) + n) (sum_of_map f g xs) ∙ sym (sum_by-cons (λ y. f (g y)) x xs)

module _ (s : Switch) (entry : ℕ → ℕ → ℕ → ℕ → ℕ) (p : Prices) where
  -- what a task has at least of cost and prices
  abbrev pub least_of : Task → ℕ
  least_of (for_path t) = least_query s entry p t
  least_of (for_piece t) = least_piece s entry p t
  least_of (for_stage t) = least_stages s p t.least (keyed t.bits ∷ t.following)

  abbrev pub pricing : Pricing Task Taken
  pricing = record { scale = p.scale; price = price_of s p; paid = worth s p; least = least_of }

  -- the tables from here on have at least this of prices
  placed : (least : ℕ) (slots : List Slot)
      → least_stages s p least slots ≤ sum_by (price_of s p) (past_by s.stages least slots) + sum_by least_of (map for_stage (next_stage least slots))
  placed least [] = by_test (nat_lt s.stages least)
    where
      by_test : (b : Bool) → (if b then forbidden else 0) ≤ sum_by (price_of s p) (if b then past_stages ∷ [] else []) + 0
      by_test true = omega arith
      by_test false = omega arith
  placed least (plain ∷ slots) = placed (least + 1) slots
  placed least (keyed bits ∷ slots) = omega arith

  dearer : (t : Task) (x : ℕ) → MayFollow (choices_of s entry t) x
      → least_of t ≤ p.scale * cost_of s entry t x + sum_by (price_of s p) (takes_of s entry t x) + sum_by least_of (leaves_of s entry t x)
  dearer (for_path t) x m =
      let all = sum_of_map least_of for_piece (pieces_of t x) in
      let least = least_at (λ k. sum_by (least_piece s entry p) (pieces_of t k)) (paths t.typed.levels) x (let h = m.1 in omega arith) in
      let none : 0 ≤ p.scale * 0 = omega arith in omega arith
  dearer (for_piece t) x m =
      let least = least_at (option_price s entry p t) (settings s entry t) x (let h = m.1 in omega arith) in
      let rest = placed 0 (slots_of s entry t x) in
      let first = sum_by-cons (price_of s p) (in_metadata (metadata t.branch.schemas false 0 (take (option_at s t.branch x).0 t.branch.ops))) (past_by s.stages 0 (slots_of s entry t x)) in
      omega arith
  dearer (for_stage t) x m =
      let a = m.0 in
      let b = m.1 in
      let e : t.least + (x - t.least) ≡ x = omega arith in
      let k = least_or_at forbidden (λ k. register_price s p (record { stage = t.least + k; bits = t.bits }) + least_stages s p (t.least + k + 1) t.following) (s.stages - t.least) (x - t.least) (omega arith) in
      let same = ap (λ n. register_price s p (record { stage = n; bits = t.bits }) + least_stages s p (n + 1) t.following) e in
      let rest = placed (x + 1) t.following in
      let first = sum_by-cons (price_of s p) (in_register x t.bits) (past_by s.stages (x + 1) t.following) in omega arith

  chosen : (t : Task) → choices_of s entry t ≡ Complete → ⊥
  chosen (for_path t) e = cc
  chosen (for_piece t) e = cc
  chosen (for_stage t) e = cc

  pub pricing_laws : PricingLaws (planning s entry) pricing
  pricing_laws = record { dearer = dearer; kept = taken_kept s p; chosen = chosen }
