-- All sizes side by side are the settings in their order.
use Rattle.std.proofs.Common.{◌≡◌, ℕ, zero, suc, ◌+◌, List, [], ◌∷◌, ◌++◌, map, take, drop, length, slice_index, refl, ap, sym, ◌∙◌, arith}
use Rattle.std.specs.List.{flat_map, range_with_len}
use Rattle.std.proofs.lemmas.List.{append-nil, map-append}
use Rattle.std.proofs.lemmas.Grind.{flat_map-append}
use Rattle.std.proofs.lemmas.List.Folds.{flat_map-map}
use Rattle.sn_base.proofs.Lists.{map_both}
use Rattle.sn_types.specs.declared.typed_op.TOp.{TOp}
use Rattle.sn_types.specs.declared.typed_op.TOp.TheVariants as ops
use Rattle.sn_types.specs.Cuts.{stateful}
use Rattle.sn_types.specs.Values.{op_at}
use Rattle.sn_cost_counts.specs.AnyFlow.{Flow}
use Rattle.sn_cost_counts.specs.Flows.{counted, counts_from, run, stepped, wider}
use Rattle.sn_plan_choices.specs.Options.{Setting, size_lists}
use Rattle.sn_cost_counts.specs.Settings.{settings}

-- ---- lists

flat_agree : {A B : Type 0} (f g : A → List B) → ((x : A) → f x ≡ g x) → (xs : List A) → flat_map f xs ≡ flat_map g xs
flat_agree f g e [] = refl
flat_agree f g e (x ∷ xs) = ap (λ ys. ys ++ flat_map f xs) (e x) ∙ ap (λ ys. g x ++ ys) (flat_agree f g e xs)

flat_flat : {A B C : Type 0} (f : A → List B) (g : B → List C) (xs : List A) → flat_map g (flat_map f xs) ≡ flat_map (λ x. flat_map g (f x)) xs
flat_flat f g [] = refl
flat_flat f g (x ∷ xs) = flat_map-append g (f x) (flat_map f xs) ∙ ap (λ ys. flat_map g (f x) ++ ys) (flat_flat f g xs)

pub map_flat : {A B C : Type 0} (f : A → List B) (g : B → C) (xs : List A) → map g (flat_map f xs) ≡ flat_map (λ x. map g (f x)) xs
map_flat f g [] = refl
map_flat f g (x ∷ xs) = map-append g (f x) (flat_map f xs) ∙ ap (λ ys. map g (f x) ++ ys) (map_flat f g xs)

-- numbers from the next one on are the next of each
range_next : (a n : ℕ) → range_with_len (suc a) n ≡ map suc (range_with_len a n)
range_next a zero = refl
range_next a (suc n) =
    let e : suc a + 1 ≡ suc (a + 1) = omega arith in
    ap (λ m. suc a ∷ range_with_len m n) e ∙ ap (λ xs. suc a ∷ xs) (range_next (a + 1) n)

next_of : (n : ℕ) → suc n ≡ n + 1
next_of n = omega arith

one_more : (n : ℕ) → 1 + n ≡ suc n
one_more n = omega arith

singles : {A B : Type 0} (f : A → B) (xs : List A) → flat_map (λ x. f x ∷ []) xs ≡ map f xs
singles f [] = refl
singles f (x ∷ xs) = ap (λ ys. f x ∷ ys) (singles f xs)

module _ (depth level : ℕ) (slots : List ℕ) where
  -- the counts of one cut of these operators, of rows on their way
  abbrev of_cut : List TOp → Flow → ℕ → List ℕ
  of_cut os f cut = map (λ sizes. counted (run depth level (take cut os) sizes f)) (size_lists slots (stateful (take cut os)))

  abbrev of_all : List TOp → List Flow → ℕ → List ℕ
  of_all os fs cut = flat_map (λ f. of_cut os f cut) fs

  -- after a stateful operator, each first size in turn
  sized : (step : ℕ → Flow → Flow) (os : List TOp) (n : ℕ) (f : Flow) →
      flat_map (λ size. map (λ rest. counted (run depth level os rest (step size f))) (size_lists slots n)) slots
      ≡ map (λ sizes. counted (run depth level os (drop 1 sizes) (step (slice_index sizes 0) f))) (size_lists slots (suc n))
  sized step os n f =
      let g : List ℕ → ℕ = λ sizes. counted (run depth level os (drop 1 sizes) (step (slice_index sizes 0) f)) in
      flat_agree (λ size. map (λ rest. counted (run depth level os rest (step size f))) (size_lists slots n)) (λ size. map g (map (λ rest. size ∷ rest) (size_lists slots n)))
      (λ size. sym (map_both (λ rest. size ∷ rest) g (size_lists slots n))) slots
      ∙ sym (map_flat (λ size. map (λ rest. size ∷ rest) (size_lists slots n)) g slots)

  by_sizes : (step : ℕ → Flow → Flow) (os : List TOp) (fs : List Flow) (cut : ℕ) →
      of_all os (flat_map (λ f. map (λ size. step size f) slots) fs) cut
      ≡ flat_map (λ f. map (λ sizes. counted (run depth level (take cut os) (drop 1 sizes) (step (slice_index sizes 0) f))) (size_lists slots (suc (stateful (take cut os))))) fs
  by_sizes step os fs cut =
      flat_flat (λ f. map (λ size. step size f) slots) (λ f. of_cut os f cut) fs
      ∙ flat_agree (λ f. flat_map (λ x. of_cut os x cut) (map (λ size. step size f) slots)) (λ f. flat_map (λ size. of_cut os (step size f) cut) slots)
      (λ f. flat_map-map (λ x. of_cut os x cut) (λ size. step size f) slots) fs
      ∙ flat_agree (λ f. flat_map (λ size. of_cut os (step size f) cut) slots)
      (λ f. map (λ sizes. counted (run depth level (take cut os) (drop 1 sizes) (step (slice_index sizes 0) f))) (size_lists slots (suc (stateful (take cut os)))))
      (sized step (take cut os) (stateful (take cut os))) fs

  widened : (op : TOp) (os : List TOp) (fs : List Flow) (cut : ℕ) → of_all os (wider depth level slots op fs) cut ≡ of_all (op ∷ os) fs (suc cut)
  widened (ops.Filter conds) os fs cut = flat_map-map (λ f. of_cut os f cut) (stepped depth 0 (op_at level (ops.Filter conds))) fs
  widened (ops.Map exprs) os fs cut = flat_map-map (λ f. of_cut os f cut) (stepped depth 0 (op_at level (ops.Map exprs))) fs
  widened ops.Distinct os fs cut = by_sizes (λ size f. stepped depth size (op_at level ops.Distinct) f) os fs cut ∙ ap (λ n. flat_map (λ f. map (λ sizes. counted (run depth level (ops.Distinct ∷ take cut os) sizes f)) (size_lists slots n)) fs) (sym (one_more (stateful (take cut os))))
  widened (ops.Reduce r) os fs cut = by_sizes (λ size f. stepped depth size (op_at level (ops.Reduce r)) f) os fs cut ∙ ap (λ n. flat_map (λ f. map (λ sizes. counted (run depth level (ops.Reduce r ∷ take cut os) sizes f)) (size_lists slots n)) fs) (sym (one_more (stateful (take cut os))))

  counts_by_cut : (os : List TOp) (fs : List Flow) → counts_from depth level slots os fs ≡ flat_map (of_all os fs) (range_with_len 0 (suc (length os)))
  counts_by_cut [] fs = sym (singles counted fs) ∙ sym (append-nil (flat_map (λ f. counted f ∷ []) fs))
  counts_by_cut (op ∷ os) fs =
      ap (λ xs. xs ++ counts_from depth level slots os (wider depth level slots op fs)) (sym (singles counted fs))
      ∙ ap (λ xs. of_all (op ∷ os) fs 0 ++ xs)
      (counts_by_cut os (wider depth level slots op fs)
      ∙ flat_agree (of_all os (wider depth level slots op fs)) (λ cut. of_all (op ∷ os) fs (suc cut)) (widened op os fs) (range_with_len 0 (suc (length os)))
      ∙ sym (flat_map-map (of_all (op ∷ os) fs) suc (range_with_len 0 (suc (length os))))
      ∙ ap (flat_map (of_all (op ∷ os) fs)) (sym (range_next 0 (suc (length os)))))

  -- of one list of rows
  pub counts_are : (os : List TOp) (f : Flow) → counts_from depth level slots os (f ∷ []) ≡ map (λ (o : Setting). counted (run depth level (take o.0 os) o.1 f)) (settings slots (length os) os)
  counts_are os f =
      counts_by_cut os (f ∷ [])
      ∙ flat_agree (of_all os (f ∷ [])) (of_cut os f) (λ cut. append-nil (of_cut os f cut)) (range_with_len 0 (suc (length os)))
      ∙ flat_agree (of_cut os f) (λ cut. map (λ (o : Setting). counted (run depth level (take o.0 os) o.1 f)) (map (λ chosen. (cut, chosen)) (size_lists slots (stateful (take cut os)))))
      (λ cut. sym (map_both (λ chosen. (cut, chosen)) (λ (o : Setting). counted (run depth level (take o.0 os) o.1 f)) (size_lists slots (stateful (take cut os))))) (range_with_len 0 (suc (length os)))
      ∙ sym (map_flat (λ cut. map (λ chosen. (cut, chosen)) (size_lists slots (stateful (take cut os)))) (λ (o : Setting). counted (run depth level (take o.0 os) o.1 f)) (range_with_len 0 (suc (length os))))
      ∙ ap (λ n. map (λ (o : Setting). counted (run depth level (take o.0 os) o.1 f)) (flat_map (λ cut. map (λ chosen. (cut, chosen)) (size_lists slots (stateful (take cut os)))) (range_with_len 0 n))) (next_of (length os))
