use Rattle.std.proofs.Common.{◌≡◌, List, [], ◌∷◌, ◌++◌, filter, Bool, true, false, not, ◌||◌, cond, refl, ap, sym, ◌∙◌, append-nil}
use Rattle.std.specs.List.{list_any, AllByRecursion}
use Rattle.std.specs.Cmp.{IsEquivalence}
use Rattle.std.proofs.lemmas.Bool.{false≢true}
use Rattle.std.proofs.lemmas.List.Elements.{filter-append}
use Rattle.sn_base.specs.Bags.{SameBag}
use Rattle.sn_base.specs.Bags.SameBag.{following}
use Rattle.sn_base.specs.Groups.{once, Apart}
use Rattle.sn_base.proofs.Lists.{by_test, or_true, filter_within, filter_turned, all_filter}
use Rattle.sn_base.proofs.BagLemmas.{bag_same, bag_then, bag_back, bag_middle, bag_parted, bag_any}

apart_filter : {K : Type 0} (same : K → K → Bool) (t : K → Bool) (ks : List K) → Apart same ks → Apart same (filter t ks)
apart_filter same t [] h = tt
apart_filter same t (k ∷ ks) h =
    elim (t k) as (λ b. Apart same (cond b (k ∷ filter t ks) (filter t ks))) [
      | true ↦ (all_filter (λ x. same k x ≡ false) t ks h.0, apart_filter same t ks h.1)
      | false ↦ apart_filter same t ks h.1
    ]

left_out : {K : Type 0} (p : K → Bool) (ks : List K) → AllByRecursion (λ x. p x ≡ false) (filter (λ x. not (p x)) ks)
left_out p [] = tt
left_out p (k ∷ ks) =
    by_test (p k)
    (λ is. let at : filter (λ x. not (p x)) (k ∷ ks) ≡ filter (λ x. not (p x)) ks = ap (λ b. cond (not b) (k ∷ filter (λ x. not (p x)) ks) (filter (λ x. not (p x)) ks)) is in
    rw at (left_out p ks))
    (λ isnt. let at : filter (λ x. not (p x)) (k ∷ ks) ≡ k ∷ filter (λ x. not (p x)) ks = ap (λ b. cond (not b) (k ∷ filter (λ x. not (p x)) ks) (filter (λ x. not (p x)) ks)) isnt in
    rw at (isnt, left_out p ks))

none_any : {K : Type 0} (p : K → Bool) (ks : List K) → AllByRecursion (λ x. p x ≡ false) ks → list_any p ks ≡ false
none_any p [] h = refl
none_any p (k ∷ ks) h = ap (λ b. b || list_any p ks) h.0 ∙ none_any p ks h.1

none_filter : {K : Type 0} (p : K → Bool) (ks : List K) → AllByRecursion (λ x. p x ≡ false) ks → filter p ks ≡ []
none_filter p [] h = refl
none_filter p (k ∷ ks) h = ap (λ b. cond b (k ∷ filter p ks) (filter p ks)) h.0 ∙ none_filter p ks h.1

-- the keys that occur are apart
pub once_apart : {K : Type 0} (same : K → K → Bool) (ks : List K) → Apart same (once same ks)
once_apart same [] = tt
once_apart same (k ∷ ks) = (left_out (same k) (once same ks), apart_filter same (λ x. not (same k x)) (once same ks) (once_apart same ks))

pub all_once : {K : Type 0} (same : K → K → Bool) (P : K → Type 0) (ks : List K) → AllByRecursion P ks → AllByRecursion P (once same ks)
all_once same P [] h = tt
all_once same P (k ∷ ks) h = (h.0, all_filter P (λ x. not (same k x)) (once same ks) (all_once same P ks h.1))

module _ {K : Type 0} {same : K → K → Bool} (E : IsEquivalence same) (exact : (x y : K) → same x y ≡ true → x ≡ y) where
  -- a test finds among the kept what it finds among all
  any_kept : (k d : K) → same d k ≡ false → (ks : List K) → list_any (same k) (filter (λ x. not (same d x)) ks) ≡ list_any (same k) ks
  any_kept k d far [] = refl
  any_kept k d far (x ∷ xs) =
      by_test (same d x)
      (λ is. let other : same k x ≡ false = E.symm k x ∙ sym (E.congr d x k is) ∙ far in
      ap (λ b. list_any (same k) (cond (not b) (x ∷ filter (λ y. not (same d y)) xs) (filter (λ y. not (same d y)) xs))) is
      ∙ any_kept k d far xs ∙ sym (ap (λ b. b || list_any (same k) xs) other))
      (λ isnt. ap (λ b. list_any (same k) (cond (not b) (x ∷ filter (λ y. not (same d y)) xs) (filter (λ y. not (same d y)) xs))) isnt
      ∙ ap (λ b. same k x || b) (any_kept k d far xs))

  -- the keys that occur are those of the list
  pub any_once : (k : K) (ks : List K) → list_any (same k) (once same ks) ≡ list_any (same k) ks
  any_once k [] = refl
  any_once k (d ∷ ks) =
      by_test (same d k)
      (λ is. let at : same k d ≡ true = E.symm k d ∙ is in
      ap (λ b. b || list_any (same k) (filter (λ x. not (same d x)) (once same ks))) at ∙ sym (ap (λ b. b || list_any (same k) ks) at))
      (λ isnt. ap (λ b. same k d || b) (any_kept k d isnt (once same ks) ∙ any_once k ks))

  -- the keys that pass a test
  pub once_filter : (t : K → Bool) (ks : List K) → once same (filter t ks) ≡ filter t (once same ks)
  once_filter t [] = refl
  once_filter t (k ∷ ks) =
      let rest = filter (λ x. not (same k x)) (once same ks) in
      by_test (t k)
      (λ is. ap (λ b. once same (cond b (k ∷ filter t ks) (filter t ks))) is
      ∙ ap (λ xs. k ∷ filter (λ x. not (same k x)) xs) (once_filter t ks)
      ∙ ap (λ xs. k ∷ xs) (filter_turned (λ x. not (same k x)) t (once same ks))
      ∙ sym (ap (λ b. cond b (k ∷ filter t rest) (filter t rest)) is))
      (λ isnt. ap (λ b. once same (cond b (k ∷ filter t ks) (filter t ks))) isnt
      ∙ once_filter t ks
      ∙ sym (ap (λ b. cond b (k ∷ filter t rest) (filter t rest)) isnt
      ∙ filter_within t (λ x. not (same k x))
      (λ x passes. by_test (same k x) (λ is. absurd (false≢true (sym isnt ∙ ap t (exact k x is) ∙ passes))) (λ other. ap not other)) (once same ks)))

  -- of keys that are apart, one is the same as a key that occurs
  pub filter_one : (k : K) (ks : List K) → Apart same ks → list_any (same k) ks ≡ true → filter (same k) ks ≡ k ∷ []
  filter_one k [] apart is = absurd (false≢true is)
  filter_one k (x ∷ xs) apart occurs =
      by_test (same k x)
      (λ is. ap (λ b. cond b (x ∷ filter (same k) xs) (filter (same k) xs)) is
      ∙ ap (λ ys. x ∷ ys) (ap (λ y. filter (same y) xs) (exact k x is) ∙ none_filter (same x) xs apart.0)
      ∙ ap (λ y. y ∷ []) (sym (exact k x is)))
      (λ isnt. ap (λ b. cond b (x ∷ filter (same k) xs) (filter (same k) xs)) isnt
      ∙ filter_one k xs apart.1 (sym (ap (λ b. b || list_any (same k) xs) isnt) ∙ occurs))

  none_in : (ks : List K) → ((k : K) → false ≡ list_any (same k) ks) → [] ≡ ks
  none_in [] h = refl
  none_in (k ∷ ks) h = absurd (false≢true (h k ∙ ap (λ b. b || list_any (same k) ks) (E.refl k)))

  -- lists of keys that are apart are the same bag where the same keys occur
  pub apart_bag : (xs ys : List K) → Apart same xs → Apart same ys → ((k : K) → list_any (same k) xs ≡ list_any (same k) ys) → SameBag xs ys
  apart_bag [] ys ax ay e = bag_same (none_in ys e)
  apart_bag (x ∷ xs) ys ax ay e =
      let rest = filter (λ y. not (same x y)) ys in
      let occurs : list_any (same x) ys ≡ true = sym (e x) ∙ ap (λ b. b || list_any (same x) xs) (E.refl x) in
      let front : SameBag ys (x ∷ (rest ++ [])) =
      bag_then (bag_back (rest ++ filter (same x) ys) ys (bag_parted (same x) ys))
      (bag_then (bag_same (ap (λ zs. rest ++ zs) (filter_one x ys ay occurs))) (bag_middle rest x [])) in
      let none_xs : list_any (same x) xs ≡ false = none_any (same x) xs ax.0 in
      let none_rest : list_any (same x) rest ≡ false = none_any (same x) rest (left_out (same x) ys) in
      let tail : SameBag xs rest = apart_bag xs rest ax.1 (apart_filter same (λ y. not (same x y)) ys ay)
      (λ k. by_test (same x k)
      (λ is. let same_key : k ≡ x = sym (exact x k is) in
      ap (λ z. list_any (same z) xs) same_key ∙ none_xs ∙ sym (ap (λ z. list_any (same z) rest) same_key ∙ none_rest))
      (λ isnt. sym (ap (λ b. b || list_any (same k) xs) (E.symm k x ∙ isnt)) ∙ e k ∙ sym (any_kept k x isnt ys))) in
      bag_back ys (x ∷ xs) (bag_then front (bag_then (bag_same (ap (λ zs. x ∷ zs) (append-nil rest))) (following x rest xs (bag_back xs rest tail))))

  pub bag_once : (xs ys : List K) → SameBag xs ys → SameBag (once same xs) (once same ys)
  bag_once xs ys b =
      apart_bag (once same xs) (once same ys) (once_apart same xs) (once_apart same ys)
      (λ k. any_once k xs ∙ bag_any (same k) xs ys b ∙ sym (any_once k ys))

  -- the resident rows and the others, each once
  pub once_parted : (t : K → Bool) (ks : List K) → SameBag (once same (filter (λ x. not (t x)) ks) ++ once same (filter t ks)) (once same ks)
  once_parted t ks =
      bag_then (bag_same (ap (λ xs. xs ++ once same (filter t ks)) (once_filter (λ x. not (t x)) ks) ∙ ap (λ xs. filter (λ x. not (t x)) (once same ks) ++ xs) (once_filter t ks)))
      (bag_parted t (once same ks))

at_end : {K : Type 0} {same : K → K → Bool} → IsEquivalence same → (d k : K) (xs : List K) → d ∷ (xs ++ filter (λ x. not (same d x)) (k ∷ [])) ≡ cond (same k d || false) (d ∷ xs) (d ∷ (xs ++ k ∷ []))
at_end {same = same} E d k xs =
    by_test (same d k)
    (λ is. ap (λ b. d ∷ (xs ++ cond (not b) (k ∷ []) [])) is ∙ ap (λ ys. d ∷ ys) (append-nil xs)
    ∙ sym (ap (λ b. cond (b || false) (d ∷ xs) (d ∷ (xs ++ k ∷ []))) (E.symm k d ∙ is)))
    (λ isnt. ap (λ b. d ∷ (xs ++ cond (not b) (k ∷ []) [])) isnt
    ∙ sym (ap (λ b. cond (b || false) (d ∷ xs) (d ∷ (xs ++ k ∷ []))) (E.symm k d ∙ isnt)))

-- one more key goes last, unless it occurs already
pub once_push : {K : Type 0} {same : K → K → Bool} → IsEquivalence same → (ks : List K) (k : K) → once same (ks ++ k ∷ []) ≡ cond (list_any (same k) ks) (once same ks) (once same ks ++ k ∷ [])
once_push E [] k = refl
once_push {same = same} E (d ∷ ks) k =
    ap (λ xs. d ∷ filter (λ x. not (same d x)) xs) (once_push E ks k)
    ∙ by_test (list_any (same k) ks)
    (λ in_ks. ap (λ b. d ∷ filter (λ x. not (same d x)) (cond b (once same ks) (once same ks ++ k ∷ []))) in_ks
    ∙ sym (ap (λ b. cond (same k d || b) (once same (d ∷ ks)) (once same (d ∷ ks) ++ k ∷ [])) in_ks
    ∙ ap (λ b. cond b (once same (d ∷ ks)) (once same (d ∷ ks) ++ k ∷ [])) (or_true (same k d))))
    (λ new. ap (λ b. d ∷ filter (λ x. not (same d x)) (cond b (once same ks) (once same ks ++ k ∷ []))) new
    ∙ ap (λ xs. d ∷ xs) (filter-append (λ x. not (same d x)) (once same ks) (k ∷ []))
    ∙ at_end E d k (filter (λ x. not (same d x)) (once same ks))
    ∙ sym (ap (λ b. cond (same k d || b) (once same (d ∷ ks)) (once same (d ∷ ks) ++ k ∷ [])) new))
