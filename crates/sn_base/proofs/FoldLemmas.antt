use Rattle.std.proofs.Common.{◌≡◌, ℕ, List, [], ◌∷◌, ◌++◌, All, fold, ap, sym, ◌∙◌}
use Rattle.std.specs.List.{AllByRecursion}
use Rattle.std.proofs.lemmas.List.Sums.{fold-append}
use Rattle.std.proofs.lemmas.List.Elements.{recursion_from_All}
use Rattle.sn_base.specs.Folds.{FoldLaws}

pub fold_had : {has : ℕ → Type 0} {unit : ℕ} {step : ℕ → ℕ → ℕ} → FoldLaws has unit step → (a : ℕ) (xs : List ℕ) → has a → AllByRecursion has xs → has (fold step a xs)
fold_had L a [] h all = h
fold_had {step = step} L a (x ∷ xs) h all = fold_had L (step a x) xs (L.closed a x h all.0) all.1

-- a fold from a is a, combined with the fold from the unit
pub fold_from : {has : ℕ → Type 0} {unit : ℕ} {step : ℕ → ℕ → ℕ} → FoldLaws has unit step → (a : ℕ) (xs : List ℕ) → has a → AllByRecursion has xs → fold step a xs ≡ step a (fold step unit xs)
fold_from {unit = unit} {step = step} L a [] h all = sym (L.starts a h) ∙ L.commutes unit a L.unit_had h
fold_from {unit = unit} {step = step} L a (x ∷ xs) h all =
    let tail = fold step unit xs in
    let tail_had = fold_had L unit xs L.unit_had all.1 in
    fold_from L (step a x) xs (L.closed a x h all.0) all.1
    ∙ L.associates a x tail h all.0 tail_had
    ∙ ap (step a) (sym (fold_from L x xs all.0 all.1) ∙ ap (λ y. fold step y xs) (sym (L.starts x all.0)))

-- two lists may be folded side by side
pub fold_of_two : {has : ℕ → Type 0} {unit : ℕ} {step : ℕ → ℕ → ℕ} → FoldLaws has unit step → (xs ys : List ℕ) → All has xs → All has ys → fold step unit (xs ++ ys) ≡ step (fold step unit xs) (fold step unit ys)
fold_of_two {has = has} {unit = unit} {step = step} L xs ys front back =
    fold-append step unit xs ys
    ∙ fold_from L (fold step unit xs) ys (fold_had L unit xs L.unit_had (recursion_from_All has xs front)) (recursion_from_All has ys back)
