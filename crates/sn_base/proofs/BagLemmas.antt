use Rattle.std.proofs.Common.{◌≡◌, ℕ, List, [], ◌∷◌, ◌++◌, map, filter, fold, Bool, true, false, not, ◌||◌, cond, refl, ap, sym, ◌∙◌, subst, append_assoc, append-nil}
use Rattle.std.specs.List.{list_any, flat_map, AllByRecursion}
use Rattle.std.specs.List.Sorted.{IsPermutation}
use Rattle.std.proofs.lemmas.List.Sorted.{IsPermutation-refl, IsPermutation-cons, IsPermutation-trans, IsPermutation-append_left, IsPermutation-append_comm}
use Rattle.sn_base.specs.Folds.{FoldLaws}
use Rattle.sn_base.specs.Bags.{SameBag}
use Rattle.sn_base.specs.Bags.SameBag.{stays, following, turned, joined}
use Rattle.sn_base.proofs.Lists.{or_turned}

pub bag_same : {A : Type 0} {xs ys : List A} → xs ≡ ys → SameBag xs ys
bag_same {xs = xs} e = subst (SameBag xs) e (stays xs)

pub bag_then : {A : Type 0} {xs ys zs : List A} → SameBag xs ys → SameBag ys zs → SameBag xs zs
bag_then {xs = xs} {ys = ys} {zs = zs} b c = joined xs ys zs b c

pub bag_back : {A : Type 0} (xs ys : List A) → SameBag xs ys → SameBag ys xs
bag_back _ _ (stays xs) = stays xs
bag_back _ _ (following x xs ys b) = following x ys xs (bag_back xs ys b)
bag_back _ _ (turned x y xs) = turned y x xs
bag_back _ _ (joined xs ys zs b c) = joined zs ys xs (bag_back ys zs c) (bag_back xs ys b)

pub bag_before : {A : Type 0} (zs xs ys : List A) → SameBag xs ys → SameBag (zs ++ xs) (zs ++ ys)
bag_before [] xs ys b = b
bag_before (z ∷ zs) xs ys b = following z (zs ++ xs) (zs ++ ys) (bag_before zs xs ys b)

pub bag_after : {A : Type 0} (zs xs ys : List A) → SameBag xs ys → SameBag (xs ++ zs) (ys ++ zs)
bag_after zs _ _ (stays xs) = stays (xs ++ zs)
bag_after zs _ _ (following x xs ys b) = following x (xs ++ zs) (ys ++ zs) (bag_after zs xs ys b)
bag_after zs _ _ (turned x y xs) = turned x y (xs ++ zs)
bag_after zs _ _ (joined xs ys ws b c) = joined (xs ++ zs) (ys ++ zs) (ws ++ zs) (bag_after zs xs ys b) (bag_after zs ys ws c)

pub bag_middle : {A : Type 0} (xs : List A) (y : A) (ys : List A) → SameBag (xs ++ y ∷ ys) (y ∷ (xs ++ ys))
bag_middle [] y ys = stays (y ∷ ys)
bag_middle (x ∷ xs) y ys = joined (x ∷ (xs ++ y ∷ ys)) (x ∷ y ∷ (xs ++ ys)) (y ∷ x ∷ (xs ++ ys)) (following x (xs ++ y ∷ ys) (y ∷ (xs ++ ys)) (bag_middle xs y ys)) (turned x y (xs ++ ys))

pub bag_filter : {A : Type 0} (t : A → Bool) (xs ys : List A) → SameBag xs ys → SameBag (filter t xs) (filter t ys)
bag_filter t _ _ (stays xs) = stays (filter t xs)
bag_filter t _ _ (following x xs ys b) =
    elim (t x) as (λ b. SameBag (cond b (x ∷ filter t xs) (filter t xs)) (cond b (x ∷ filter t ys) (filter t ys))) [
      | true ↦ following x (filter t xs) (filter t ys) (bag_filter t xs ys b)
      | false ↦ bag_filter t xs ys b
    ]
bag_filter t _ _ (turned x y xs) =
    let zs = filter t xs in
    elim (t x) as (λ b. SameBag (cond b (x ∷ cond (t y) (y ∷ zs) zs) (cond (t y) (y ∷ zs) zs)) (cond (t y) (y ∷ cond b (x ∷ zs) zs) (cond b (x ∷ zs) zs))) [
      | true ↦ elim (t y) as (λ c. SameBag (x ∷ cond c (y ∷ zs) zs) (cond c (y ∷ x ∷ zs) (x ∷ zs))) [ true ↦ turned x y zs | false ↦ stays (x ∷ zs) ]
      | false ↦ stays (cond (t y) (y ∷ zs) zs)
    ]
bag_filter t _ _ (joined xs ys zs b c) = joined (filter t xs) (filter t ys) (filter t zs) (bag_filter t xs ys b) (bag_filter t ys zs c)

-- those that fail a test and those that pass it are all
pub bag_parted : {A : Type 0} (t : A → Bool) (xs : List A) → SameBag (filter (λ x. not (t x)) xs ++ filter t xs) xs
bag_parted t [] = stays []
bag_parted t (x ∷ xs) =
    let fs = filter (λ y. not (t y)) xs in
    let ps = filter t xs in
    elim (t x) as (λ b. SameBag (cond (not b) (x ∷ fs) fs ++ cond b (x ∷ ps) ps) (x ∷ xs)) [
      | true ↦ joined (fs ++ x ∷ ps) (x ∷ (fs ++ ps)) (x ∷ xs) (bag_middle fs x ps) (following x (fs ++ ps) xs (bag_parted t xs))
      | false ↦ following x (fs ++ ps) xs (bag_parted t xs)
    ]

pub bag_any : {A : Type 0} (t : A → Bool) (xs ys : List A) → SameBag xs ys → list_any t xs ≡ list_any t ys
bag_any t _ _ (stays xs) = refl
bag_any t _ _ (following x xs ys b) = ap (λ c. t x || c) (bag_any t xs ys b)
bag_any t _ _ (turned x y xs) = or_turned (t x) (t y) (list_any t xs)
bag_any t _ _ (joined xs ys zs b c) = bag_any t xs ys b ∙ bag_any t ys zs c

pub bag_map : {A B : Type 0} (f : A → B) (xs ys : List A) → SameBag xs ys → SameBag (map f xs) (map f ys)
bag_map f _ _ (stays xs) = stays (map f xs)
bag_map f _ _ (following x xs ys h) = following (f x) (map f xs) (map f ys) (bag_map f xs ys h)
bag_map f _ _ (turned x y xs) = turned (f x) (f y) (map f xs)
bag_map f _ _ (joined xs ys zs h k) = joined (map f xs) (map f ys) (map f zs) (bag_map f xs ys h) (bag_map f ys zs k)

-- a list whose values the fold has
pub all_bag : {A : Type 0} (P : A → Type 0) (xs ys : List A) → SameBag xs ys → AllByRecursion P xs → AllByRecursion P ys
all_bag P _ _ (stays xs) h = h
all_bag P _ _ (following x xs ys b) h = (h.0, all_bag P xs ys b h.1)
all_bag P _ _ (turned x y xs) h = (h.1.0, (h.0, h.1.1))
all_bag P _ _ (joined xs ys zs b c) h = all_bag P ys zs c (all_bag P xs ys b h)

-- the fold of a bag doesn't depend on the order
pub fold_bag : {has : ℕ → Type 0} {unit : ℕ} {step : ℕ → ℕ → ℕ} → FoldLaws has unit step → (xs ys : List ℕ) → SameBag xs ys → (a : ℕ) → has a → AllByRecursion has xs → fold step a xs ≡ fold step a ys
fold_bag L _ _ (stays xs) a ha h = refl
fold_bag {step = step} L _ _ (following x xs ys b) a ha h = fold_bag L xs ys b (step a x) (L.closed a x ha h.0) h.1
fold_bag {step = step} L _ _ (turned x y xs) a ha h =
    ap (λ s. fold step s xs) (L.associates a x y ha h.0 h.1.0 ∙ ap (step a) (L.commutes x y h.0 h.1.0) ∙ sym (L.associates a y x ha h.1.0 h.0))
fold_bag {has = has} L _ _ (joined xs ys zs b c) a ha h = fold_bag L xs ys b a ha h ∙ fold_bag L ys zs c a ha (all_bag has xs ys b h)

-- as std says it
pub bag_permutes : {A : Type 0} (xs ys : List A) → SameBag xs ys → IsPermutation xs ys
bag_permutes _ _ (stays xs) = IsPermutation-refl xs
bag_permutes _ _ (following x xs ys b) = IsPermutation-cons x xs ys (bag_permutes xs ys b)
bag_permutes _ _ (turned x y xs) = IsPermutation-append_left xs (x ∷ y ∷ []) (y ∷ x ∷ []) (IsPermutation-append_comm (x ∷ []) (y ∷ []))
bag_permutes _ _ (joined xs ys zs b c) = IsPermutation-trans xs ys zs (bag_permutes xs ys b) (bag_permutes ys zs c)

-- two parts may be exchanged
pub bag_swapped : {A : Type 0} (xs ys : List A) → SameBag (xs ++ ys) (ys ++ xs)
bag_swapped [] ys = bag_same (sym (append-nil ys))
bag_swapped (x ∷ xs) ys = bag_then (following x (xs ++ ys) (ys ++ xs) (bag_swapped xs ys)) (bag_back (ys ++ x ∷ xs) (x ∷ (ys ++ xs)) (bag_middle ys x xs))

-- a list for each element
pub flat_bag : {A B : Type 0} (f : A → List B) (xs ys : List A) → SameBag xs ys → SameBag (flat_map f xs) (flat_map f ys)
flat_bag f _ _ (stays xs) = stays (flat_map f xs)
flat_bag f _ _ (following x xs ys b) = bag_before (f x) (flat_map f xs) (flat_map f ys) (flat_bag f xs ys b)
flat_bag f _ _ (turned x y xs) =
    bag_then (bag_same (sym (append_assoc (f x) (f y) (flat_map f xs))))
    (bag_then (bag_after (flat_map f xs) (f x ++ f y) (f y ++ f x) (bag_swapped (f x) (f y))) (bag_same (append_assoc (f y) (f x) (flat_map f xs))))
flat_bag f _ _ (joined xs ys zs b c) = joined (flat_map f xs) (flat_map f ys) (flat_map f zs) (flat_bag f xs ys b) (flat_bag f ys zs c)

pub flat_each : {A B : Type 0} (f g : A → List B) → ((x : A) → SameBag (f x) (g x)) → (xs : List A) → SameBag (flat_map f xs) (flat_map g xs)
flat_each f g e [] = stays []
flat_each f g e (x ∷ xs) = bag_then (bag_after (flat_map f xs) (f x) (g x) (e x)) (bag_before (g x) (flat_map f xs) (flat_map g xs) (flat_each f g e xs))
