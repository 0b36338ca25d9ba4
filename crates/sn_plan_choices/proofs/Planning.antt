-- The laws of planning's tasks.
use Rattle.std.proofs.Common.{◌≡◌, ℕ, zero, suc, ◌+◌, ◌≤◌, ◌<◌, List, [], ◌∷◌, map, refl, ap, sym, ◌∙◌, subst, arith, inl, inr, min, max}
use Rattle.std.specs.Prelude.{◌⊎◌}
use Rattle.std.specs.List.{sum_by}
use Rattle.std.proofs.Math.Nat.{eq-or-lt_of_le}
use Rattle.std.proofs.lemmas.List.Sums.{sum_by-cons}
use Rattle.sn_switch.specs.declared.switch.Switch.{Switch}
use Rattle.sn_tree_space.specs.Readers.{MayFollow}
use Rattle.sn_tree_space.specs.Agendas.{TaskLaws}
use Rattle.sn_plan_choices.specs.Within.{least_below, greatest_below}
use Rattle.sn_plan_choices.specs.Options.{Slot, plain, keyed, registers_among, paths}
use Rattle.sn_plan_choices.specs.Planning.{Task, for_path, for_piece, for_stage, next_stage, pieces_of, slots_of, entry_of, settings, least_entry, least_of, most_stage, most_piece, most_of, choices_of, leaves_of, cost_of, planning}
use Rattle.sn_plan_choices.proofs.Loads.{too_much_stays}

pub least_at : (f : ℕ → ℕ) (n x : ℕ) → x < n → least_below f n ≤ f x
least_at f zero x h = absurd (omega arith)
least_at f (suc zero) x h = let e : 0 ≡ x = omega arith in subst (λ (k : ℕ). f 0 ≤ f k) e (omega arith)
least_at f (suc (suc n)) x h = by_place (eq-or-lt_of_le (let l : x ≤ suc n = omega arith in l)) (λ less. least_at f (suc n) x less)
  where
    by_place : (x ≡ suc n) ⊎ (x < suc n) → (x < suc n → least_below f (suc n) ≤ f x) → min (f (suc n)) (least_below f (suc n)) ≤ f x
    by_place (inl e) rest = subst (λ (k : ℕ). min (f (suc n)) (least_below f (suc n)) ≤ f k) (sym e) (omega arith)
    by_place (inr less) rest = let k = rest less in omega arith

pub greatest_at : (f : ℕ → ℕ) (n x : ℕ) → x < n → f x ≤ greatest_below f n
greatest_at f zero x h = absurd (omega arith)
greatest_at f (suc n) x h = by_place (eq-or-lt_of_le (let l : x ≤ n = omega arith in l)) (λ less. greatest_at f n x less)
  where
    by_place : (x ≡ n) ⊎ (x < n) → (x < n → f x ≤ greatest_below f n) → f x ≤ max (f n) (greatest_below f n)
    by_place (inl e) rest = subst (λ (k : ℕ). f k ≤ max (f n) (greatest_below f n)) (sym e) (omega arith)
    by_place (inr less) rest = let k = rest less in omega arith

sum_of_map : {A B : Type 0} (f : B → ℕ) (g : A → B) (xs : List A) → sum_by f (map g xs) ≡ sum_by (λ x. f (g x)) xs
sum_of_map f g [] = refl
sum_of_map f g (x ∷ xs) = sum_by-cons f (g x) (map g xs) ∙ ap (λ n. f (g x) + n) (sum_of_map f g xs) ∙ sym (sum_by-cons (λ y. f (g y)) x xs)

module _ (s : Switch) (entry : ℕ → ℕ → ℕ → ℕ → ℕ) where
  stages_left : (least : ℕ) (slots : List Slot) → sum_by (most_stage s entry) (next_stage least slots) ≡ registers_among slots
  stages_left least [] = refl
  stages_left least (plain ∷ slots) = stages_left (least + 1) slots
  stages_left least (keyed bits ∷ slots) = omega arith

  fewer : (t : Task) (x : ℕ) → MayFollow (choices_of s entry t) x → sum_by (most_of s entry) (leaves_of s entry t x) + 1 ≤ most_of s entry t
  fewer (for_path t) x m =
      let all = sum_of_map (most_of s entry) for_piece (pieces_of t x) in
      let most = greatest_at (λ k. sum_by (most_piece s entry) (pieces_of t k)) (paths t.typed.levels) x (let h = m.1 in omega arith) in omega arith
  fewer (for_piece t) x m =
      let all = sum_of_map (most_of s entry) for_stage (next_stage 0 (slots_of s entry t x)) in
      let left = stages_left 0 (slots_of s entry t x) in
      let most = greatest_at (λ k. registers_among (slots_of s entry t k)) (settings s entry t) x (let h = m.1 in omega arith) in omega arith
  fewer (for_stage t) x m =
      let all = sum_of_map (most_of s entry) for_stage (next_stage (x + 1) t.following) in
      let left = stages_left (x + 1) t.following in omega arith

  dearer : (t : Task) (x : ℕ) → MayFollow (choices_of s entry t) x → least_of s entry t ≤ cost_of s entry t x + sum_by (least_of s entry) (leaves_of s entry t x)
  dearer (for_path t) x m =
      let all = sum_of_map (least_of s entry) for_piece (pieces_of t x) in
      let least = least_at (λ k. sum_by (least_entry s entry) (pieces_of t k)) (paths t.typed.levels) x (let h = m.1 in omega arith) in omega arith
  dearer (for_piece t) x m = let least = least_at (entry_of s entry t) (settings s entry t) x (let h = m.1 in omega arith) in omega arith
  dearer (for_stage t) x m = omega arith

  some : (t : Task) → 1 ≤ most_of s entry t
  some (for_path t) = omega arith
  some (for_piece t) = omega arith
  some (for_stage t) = omega arith

  pub planning_laws : TaskLaws (planning s entry)
  planning_laws = record { some = some; fewer = fewer; dearer = dearer; grows = too_much_stays s }
