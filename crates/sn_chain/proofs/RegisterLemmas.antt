-- The cells after a list of offers show the residents of the offered keys, each with the fold of its values.
use Rattle.std.proofs.Common.{◌≡◌, ℕ, zero, suc, ◌<◌, List, [], ◌∷◌, ◌++◌, map, fold, length, Bool, true, false, not, cond, nat_eq, Option, Some, None, is_some, is_none, get_or, set, replicate, refl, ap, sym, subst, ◌∙◌, append-nil, append_assoc, length-set}
use Rattle.std.specs.List.{list_any, AllByRecursion}
use Rattle.std.specs.Option.{option_map}
use Rattle.std.specs.Map.{lookup}
use Rattle.std.specs.Cmp.{IsEquivalence}
use Rattle.std.proofs.lemmas.Bool.{false≢true}
use Rattle.std.proofs.lemmas.List.{map-append, length-replicate, get_or-set_same, get_or-set_other}
use Rattle.std.proofs.lemmas.List.Sums.{fold-append}
use Rattle.sn_base.specs.Folds.{FoldLaws}
use Rattle.sn_base.specs.Groups.{values_at, paired}
use Rattle.sn_base.proofs.Lists.{by_test, any_push, or_left, or_right, not_true, nat_same, nat_self, find_is, find_same, find_some}
use Rattle.sn_base.proofs.FoldedLemmas.{values_push, values_none}
use Rattle.sn_chain.specs.Residence.{free_place, seated_at, seated, residents, resides}
use Rattle.sn_chain.specs.Registers.{cell, holds, held_place, empty_place, stepped, put}
use Rattle.sn_chain.specs.Chain.{answer_at, answer_for}
use Rattle.sn_chain.proofs.ResidenceLemmas.{seats, offered, Keeps, unplaced, residents_keep, residents_push, resides_later, among, empty_is, free_own, residents_seated}

pub some_of : {X : Type 0} (o : Option X) → is_some o ≡ true → (x : X) × (o ≡ Some x)
some_of None e = absurd (false≢true e)
some_of (Some x) e = (x, refl)

none_of : {X : Type 0} (o : Option X) → ((x : X) → o ≡ Some x → ⊥) → o ≡ None
none_of None h = refl
none_of (Some x) h = absurd (h x refl)

none_map : {X Y : Type 0} (f : X → Y) (o : Option X) → is_none (option_map f o) ≡ is_none o
none_map f None = refl
none_map f (Some x) = refl

pub none_at : {X : Type 0} (n p : ℕ) → get_or {A = Option X} (replicate n None) p None ≡ None
none_at zero p = refl
none_at (suc n) zero = refl
none_at (suc n) (suc p) = none_at n p

-- two functions that agree on what is there
map_there : {X Y : Type 0} (f g : X → Y) (o : Option X) → ((x : X) → o ≡ Some x → f x ≡ g x) → option_map f o ≡ option_map g o
map_there f g None e = refl
map_there f g (Some x) e = ap (λ y. Some y) (e x refl)

module _ {K : Type 0} {same : K → K → Bool} (E : IsEquivalence same) (exact : (x y : K) → same x y ≡ true → x ≡ y) (places : K → List ℕ) (n : ℕ) (within : (k : K) (p : ℕ) → list_any (nat_eq p) (places k) ≡ true → p < n) {has : ℕ → Type 0} {unit : ℕ} {step : ℕ → ℕ → ℕ} (L : FoldLaws has unit step) where
  abbrev total : List (K × ℕ) → K → ℕ
  total offers k = fold step unit (values_at same k offers)

  abbrev keys : List (K × ℕ) → List K
  keys offers = map (λ o. o.0) offers

  abbrev taken : List (K × ℕ) → List (ℕ × K)
  taken offers = residents same places (keys offers)

  abbrev seated_in : List (ℕ × K) → K → Bool
  seated_in ts k = seats E exact places ts k

  -- the cells show the residents of the offered keys, each with the fold of its values
  pub record Stands (cells : List (Option (K × ℕ))) (offers : List (K × ℕ)) : Type 0 where
    pub long : length cells ≡ n
    pub shown : (p : ℕ) → cell cells p ≡ option_map (paired (total offers)) (lookup (nat_eq p) (taken offers))

  -- the cells after one offer
  abbrev pub after : List (Option (K × ℕ)) → K × ℕ → List (Option (K × ℕ))
  after cells o = put step cells o.0 o.1 (held_place same cells (places o.0) o.0) (empty_place cells (places o.0))

  abbrev more : List (K × ℕ) → K → ℕ → List (K × ℕ)
  more offers k v = offers ++ (k, v) ∷ []

  -- ---- folds

  total_same : (offers : List (K × ℕ)) (k x : K) (v : ℕ) → same k x ≡ true → total (more offers k v) x ≡ step (total offers x) v
  total_same offers k x v is =
      ap (fold step unit) (values_push same x k v offers ∙ ap (λ b. values_at same x offers ++ cond b (v ∷ []) []) (E.symm x k ∙ is))
      ∙ fold-append step unit (values_at same x offers) (v ∷ [])

  total_other : (offers : List (K × ℕ)) (k x : K) (v : ℕ) → same k x ≡ false → total (more offers k v) x ≡ total offers x
  total_other offers k x v isnt =
      ap (fold step unit) (values_push same x k v offers ∙ ap (λ b. values_at same x offers ++ cond b (v ∷ []) []) (E.symm x k ∙ isnt) ∙ append-nil (values_at same x offers))

  total_first : (offers : List (K × ℕ)) (k : K) (v : ℕ) → list_any (same k) (keys offers) ≡ false → has v → total (more offers k v) k ≡ v
  total_first offers k v new had =
      total_same offers k k v (E.refl k) ∙ ap (λ vs. step (fold step unit vs) v) (values_none same k offers new) ∙ L.starts v had

  -- ---- what an offer finds

  held_one : (offers : List (K × ℕ)) (k : K) (o : Option K) → holds same k (option_map (paired (total offers)) o) ≡ true → (x : K) × ((o ≡ Some x) × (same k x ≡ true))
  held_one offers k None e = absurd (false≢true e)
  held_one offers k (Some x) e = (x, (refl, e))

  held_at : (cells : List (Option (K × ℕ))) (offers : List (K × ℕ)) → Stands cells offers → (k : K) (p : ℕ) → held_place same cells (places k) k ≡ Some p → (x : K) × ((lookup (nat_eq p) (taken offers) ≡ Some x) × (same k x ≡ true))
  held_at cells offers s k p found =
      held_one offers k (lookup (nat_eq p) (taken offers)) (sym (ap (holds same k) (s.shown p)) ∙ find_is (λ q. holds same k (cell cells q)) (places k) p found)

  held_none : (cells : List (Option (K × ℕ))) (offers : List (K × ℕ)) → Stands cells offers → (k : K) → seated_in (taken offers) k ≡ false → held_place same cells (places k) k ≡ None
  held_none cells offers s k isnt =
      none_of (held_place same cells (places k) k) (λ p found. let at = held_at cells offers s k p found in
      false≢true (sym isnt ∙ among E exact places (taken offers) p k at.0 at.1.0 at.1.1))

  home_holds : (cells : List (Option (K × ℕ))) (offers : List (K × ℕ)) → Stands cells offers → (k : K) (p : ℕ) → lookup (nat_eq p) (taken offers) ≡ Some k → holds same k (cell cells p) ≡ true
  home_holds cells offers s k p here = ap (λ o. holds same k o) (s.shown p) ∙ ap (λ o. holds same k (option_map (paired (total offers)) o)) here ∙ E.refl k

  held_some : (cells : List (Option (K × ℕ))) (offers : List (K × ℕ)) → Stands cells offers → (k : K) → seated_in (taken offers) k ≡ true → (p : ℕ) × ((held_place same cells (places k) k ≡ Some p) × (lookup (nat_eq p) (taken offers) ≡ Some k))
  held_some cells offers s k is =
      let homes = residents_seated E exact places (keys offers) in
      let home = homes.place k is in
      let found = some_of (held_place same cells (places k) k) (find_some (λ q. holds same k (cell cells q)) (places k) home.0 (homes.own home.0 k home.1) (home_holds cells offers s k home.0 home.1)) in
      let at = held_at cells offers s k found.0 found.1 in
      (found.0, (found.1, at.1.0 ∙ ap (λ x. Some x) (sym (exact k at.0 at.1.1))))

  empty_found : (cells : List (Option (K × ℕ))) (offers : List (K × ℕ)) → Stands cells offers → (k : K) → empty_place cells (places k) ≡ free_place same places (taken offers) k
  empty_found cells offers s k =
      find_same (λ p. is_none (cell cells p)) (λ p. not (list_any (nat_eq p) (map (λ (h : ℕ × K). h.0) (taken offers))))
      (λ p. ap is_none (s.shown p) ∙ none_map (paired (total offers)) (lookup (nat_eq p) (taken offers)) ∙ empty_is E exact places (taken offers) p) (places k)

  -- ---- one offer more

  taken_more : (offers : List (K × ℕ)) (k : K) (v : ℕ) → taken (more offers k v) ≡ offered E exact places (taken offers) k
  taken_more offers k v = ap (residents same places) (map-append (λ (o : K × ℕ). o.0) offers ((k, v) ∷ [])) ∙ residents_push E exact places (keys offers) k

  -- a cell of another key shows what it showed
  others : (offers : List (K × ℕ)) (k : K) (v p : ℕ) → ((x : K) → lookup (nat_eq p) (taken offers) ≡ Some x → same k x ≡ false) →
      option_map (paired (total offers)) (lookup (nat_eq p) (taken offers)) ≡ option_map (paired (total (more offers k v))) (lookup (nat_eq p) (taken offers))
  others offers k v p far =
      map_there (paired (total offers)) (paired (total (more offers k v))) (lookup (nat_eq p) (taken offers)) (λ x at. ap (λ (m : ℕ). with_number x m) (sym (total_other offers k x v (far x at))))
    where
      with_number : K → ℕ → K × ℕ
      with_number x m = (x, m)

  -- the key of a place that isn't its own is another
  other_key : (offers : List (K × ℕ)) (k : K) → seated_in (taken offers) k ≡ false → (p : ℕ) (x : K) → lookup (nat_eq p) (taken offers) ≡ Some x → same k x ≡ false
  other_key offers k isnt p x at = not_true (same k x) (λ is. false≢true (sym isnt ∙ among E exact places (taken offers) p k x at is))

  stands_held : (cells : List (Option (K × ℕ))) (offers : List (K × ℕ)) → Stands cells offers → (k : K) (v : ℕ) → seated_in (taken offers) k ≡ true → (p : ℕ) → lookup (nat_eq p) (taken offers) ≡ Some k →
      Stands (set cells p (stepped step v (cell cells p))) (more offers k v)
  stands_held cells offers s k v is p here =
      let homes = residents_seated E exact places (keys offers) in
      let inside : p < length cells = subst (λ (m : ℕ). p < m) (sym s.long) (within k p (homes.own p k here)) in
      let same_taken : taken (more offers k v) ≡ taken offers = taken_more offers k v ∙ ap (λ b. cond b (taken offers) (seated same places (taken offers) k)) is in
      let total' = total (more offers k v) in
      record {
        long = length-set cells p (stepped step v (cell cells p)) ∙ s.long;
        shown = λ q.
            by_test (nat_eq q p)
            (λ at. ap (λ i. get_or (set cells p (stepped step v (cell cells p))) i None) (nat_same q p at)
            ∙ get_or-set_same cells p (stepped step v (cell cells p)) None inside
            ∙ ap (stepped step v) (s.shown p ∙ ap (option_map (paired (total offers))) here)
            ∙ ap (λ (m : ℕ). some_with k m) (sym (total_same offers k k v (E.refl k)))
            ∙ sym (ap (λ i. option_map (paired total') (lookup (nat_eq i) (taken offers))) (nat_same q p at) ∙ ap (option_map (paired total')) here))
            (λ away. get_or-set_other cells p q (stepped step v (cell cells p)) None (λ e. false≢true (sym away ∙ ap (λ i. nat_eq i p) e ∙ nat_self p))
            ∙ s.shown q
            ∙ others offers k v q (λ x at. not_true (same k x) (λ eq. false≢true (sym away ∙ ap (λ i. nat_eq i p) (homes.single q p k (at ∙ ap (λ y. Some y) (sym (exact k x eq))) here) ∙ nat_self p))))
            ∙ ap (λ ts. option_map (paired total') (lookup (nat_eq q) ts)) (sym same_taken);
      }
    where
      some_with : K → ℕ → Option (K × ℕ)
      some_with x m = Some (x, m)

  stands_new : (cells : List (Option (K × ℕ))) (offers : List (K × ℕ)) → Stands cells offers → (k : K) (v : ℕ) → has v → seated_in (taken offers) k ≡ false → (p : ℕ) → free_place same places (taken offers) k ≡ Some p →
      Stands (set cells p (Some (k, v))) (more offers k v)
  stands_new cells offers s k v had isnt p free =
      let inside : p < length cells = subst (λ (m : ℕ). p < m) (sym s.long) (within k p (free_own E exact places (taken offers) k p free)) in
      let new : list_any (same k) (keys offers) ≡ false = not_true (list_any (same k) (keys offers)) (λ came. unplaced E exact places (taken offers) k p isnt free ((residents_keep E exact places (keys offers)).handled k came)) in
      let same_taken : taken (more offers k v) ≡ (p, k) ∷ taken offers =
      taken_more offers k v ∙ ap (λ b. cond b (taken offers) (seated same places (taken offers) k)) isnt ∙ ap (seated_at same places (taken offers) k) free in
      let total' = total (more offers k v) in
      record {
        long = length-set cells p (Some (k, v)) ∙ s.long;
        shown = λ q.
            by_test (nat_eq q p)
            (λ at. ap (λ i. get_or (set cells p (Some (k, v))) i None) (nat_same q p at)
            ∙ get_or-set_same cells p (Some (k, v)) None inside
            ∙ ap (λ (m : ℕ). some_with k m) (sym (total_first offers k v new had))
            ∙ sym (ap (λ b. option_map (paired total') (cond b (Some k) (lookup (nat_eq q) (taken offers)))) at))
            (λ away. get_or-set_other cells p q (Some (k, v)) None (λ e. false≢true (sym away ∙ ap (λ i. nat_eq i p) e ∙ nat_self p))
            ∙ s.shown q
            ∙ others offers k v q (λ x at. other_key offers k isnt q x at)
            ∙ sym (ap (λ b. option_map (paired total') (cond b (Some k) (lookup (nat_eq q) (taken offers)))) away))
            ∙ ap (λ ts. option_map (paired total') (lookup (nat_eq q) ts)) (sym same_taken);
      }
    where
      some_with : K → ℕ → Option (K × ℕ)
      some_with x m = Some (x, m)

  stands_over : (cells : List (Option (K × ℕ))) (offers : List (K × ℕ)) → Stands cells offers → (k : K) (v : ℕ) → seated_in (taken offers) k ≡ false → free_place same places (taken offers) k ≡ None → Stands cells (more offers k v)
  stands_over cells offers s k v isnt none =
      let same_taken : taken (more offers k v) ≡ taken offers =
      taken_more offers k v ∙ ap (λ b. cond b (taken offers) (seated same places (taken offers) k)) isnt ∙ ap (seated_at same places (taken offers) k) none in
      record {
        long = s.long;
        shown = λ q. s.shown q ∙ others offers k v q (λ x at. other_key offers k isnt q x at) ∙ ap (λ ts. option_map (paired (total (more offers k v))) (lookup (nat_eq q) ts)) (sym same_taken);
      }

  stands_after : (cells : List (Option (K × ℕ))) (offers : List (K × ℕ)) → Stands cells offers → (k : K) (v : ℕ) → has v → Stands (after cells (k, v)) (more offers k v)
  stands_after cells offers s k v had =
      by_test (seated_in (taken offers) k)
      (λ is. let found = held_some cells offers s k is in
      subst (λ (o : Option ℕ). Stands (put step cells k v o (empty_place cells (places k))) (more offers k v)) (sym found.1.0) (stands_held cells offers s k v is found.0 found.1.1))
      (λ isnt. subst (λ (o : Option ℕ). Stands (put step cells k v o (empty_place cells (places k))) (more offers k v)) (sym (held_none cells offers s k isnt))
      (subst (λ (o : Option ℕ). Stands (put step cells k v None o) (more offers k v)) (sym (empty_found cells offers s k)) (by_place isnt (free_place same places (taken offers) k) refl)))
    where
      by_place : seated_in (taken offers) k ≡ false → (o : Option ℕ) → free_place same places (taken offers) k ≡ o → Stands (put step cells k v None o) (more offers k v)
      by_place isnt None none = stands_over cells offers s k v isnt none
      by_place isnt (Some p) free = stands_new cells offers s k v had isnt p free

  -- ---- a list of offers

  all_stand : (later front : List (K × ℕ)) (cells : List (Option (K × ℕ))) → Stands cells front → AllByRecursion (λ (o : K × ℕ). has o.1) later → Stands (fold after cells later) (front ++ later)
  all_stand [] front cells s had = subst (λ (os : List (K × ℕ)). Stands cells os) (sym (append-nil front)) s
  all_stand (o ∷ later) front cells s had =
      subst (λ (os : List (K × ℕ)). Stands (fold after cells (o ∷ later)) os) (append_assoc front (o ∷ []) later)
      (all_stand later (front ++ o ∷ []) (after cells o) (stands_after cells front s o.0 o.1 had.0) had.1)

  pub offers_stand : (offers : List (K × ℕ)) → AllByRecursion (λ (o : K × ℕ). has o.1) offers → Stands (fold after (replicate n None) offers) offers
  offers_stand offers had = all_stand offers [] (replicate n None) (record { long = length-replicate n None; shown = λ p. none_at n p }) had

  -- the answer to an offer among others
  pub answers_stand : (cells : List (Option (K × ℕ))) (before : List (K × ℕ)) → Stands cells before → (k : K) (v : ℕ) (later : List (K × ℕ)) →
      answer_at (held_place same cells (places k) k) (empty_place cells (places k)) ≡ answer_for (resides same places (keys (before ++ (k, v) ∷ later)) k) (list_any (same k) (keys before))
  answers_stand cells before s k v later =
      let ks = keys before in
      let ts = taken before in
      let keeps = residents_keep E exact places ks in
      let came : list_any (same k) (ks ++ k ∷ []) ≡ true = any_push (same k) ks k ∙ or_right (list_any (same k) ks) (same k k) (E.refl k) in
      let all_keys : keys (before ++ (k, v) ∷ later) ≡ (ks ++ k ∷ []) ++ keys later = map-append (λ (o : K × ℕ). o.0) before ((k, v) ∷ later) ∙ sym (append_assoc ks (k ∷ []) (keys later)) in
      let now : resides same places (keys (before ++ (k, v) ∷ later)) k ≡ seated_in (offered E exact places ts k) k =
      ap (λ xs. resides same places xs k) all_keys ∙ resides_later E exact places (ks ++ k ∷ []) (keys later) k came ∙ ap (λ hs. seated_in hs k) (residents_push E exact places ks k) in
      by_test (seated_in ts k)
      (λ is. let found = held_some cells before s k is in
      ap (λ o. answer_at o (empty_place cells (places k))) found.1.0
      ∙ sym (ap (λ b. answer_for b (list_any (same k) ks)) (now ∙ ap (λ b. seated_in (cond b ts (seated same places ts k)) k) is ∙ is) ∙ ap (answer_for true) (keeps.known k is)))
      (λ isnt. ap (λ o. answer_at o (empty_place cells (places k))) (held_none cells before s k isnt)
      ∙ ap (answer_at None) (empty_found cells before s k)
      ∙ by_place isnt keeps (free_place same places ts k) refl
      ∙ ap (λ b. answer_for b (list_any (same k) ks)) (sym (now ∙ ap (λ b. seated_in (cond b ts (seated same places ts k)) k) isnt)))
    where
      by_place : seated_in (taken before) k ≡ false → Keeps E exact places (taken before) (keys before) → (o : Option ℕ) → free_place same places (taken before) k ≡ o →
          answer_at None o ≡ answer_for (seated_in (seated_at same places (taken before) k o) k) (list_any (same k) (keys before))
      by_place isnt keeps None none = sym (ap (λ b. answer_for b (list_any (same k) (keys before))) isnt)
      by_place isnt keeps (Some p) free =
          sym (ap (λ b. answer_for b (list_any (same k) (keys before))) (or_left (same k k) (seated_in (taken before) k) (E.refl k))
          ∙ ap (answer_for true) (not_true (list_any (same k) (keys before)) (λ came. unplaced E exact places (taken before) k p isnt free (keeps.handled k came))))
