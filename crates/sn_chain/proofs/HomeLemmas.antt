-- Residents by rising place, and what is read out of the cells.
use Rattle.std.proofs.Common.{◌≡◌, ℕ, zero, suc, ◌+◌, ◌*◌, ◌≤◌, ◌<◌, ◌≢◌, List, [], ◌∷◌, map, length, Bool, true, false, cond, nat_eq, nat_le, Option, Some, None, refl, ap, sym, ◌∙◌, subst, add-zero, zero-add, arith}
use Rattle.std.specs.List.{list_any, cons_option, filter_map, range_with_len}
use Rattle.std.specs.Option.{option_map}
use Rattle.std.specs.Map.{lookup}
use Rattle.std.specs.Cmp.{IsEquivalence}
use Rattle.std.specs.Cmp.Lexicographic.{nat_list_eq_equiv}
use Rattle.std.proofs.lemmas.Bool.{false≢true, le-leb, lt-leb}
use Rattle.sn_base.specs.Bags.{SameBag}
use Rattle.sn_base.specs.Bags.SameBag.{stays, following, turned, joined}
use Rattle.sn_base.specs.Groups.{Row, Apart, same_row}
use Rattle.sn_base.proofs.Lists.{by_test, by_pushes, map_both, nat_same, nat_self, none_all}
use Rattle.sn_base.proofs.BagLemmas.{all_bag, bag_map, bag_any, bag_back}
use Rattle.sn_base.proofs.FoldedLemmas.{same_row_exact}
use Rattle.sn_chain.specs.Residence.{free_place, seated_at, seated, residents}
use Rattle.sn_chain.specs.Registers.{cell}
use Rattle.sn_chain.specs.Chain.{places_of, homes_of, has_home}
use Rattle.sn_chain.specs.Homes.{put_by_place, by_place, homes_by_place, held_in_order}
use Rattle.sn_chain.proofs.ResidenceLemmas.{seats, offered, residents_push, residents_keep, free_own, free_empty}
use Rattle.sn_chain.proofs.Places.{within_cells}
use Rattle.sn_base.proofs.Tests.{nat_above}

-- ---- the order by places keeps the bag

put_bag : {K : Type 0} (h : ℕ × K) (hs : List (ℕ × K)) → SameBag (put_by_place h hs) (h ∷ hs)
put_bag h [] = stays (h ∷ [])
put_bag h (g ∷ gs) =
    elim (nat_le h.0 g.0) as (λ b. SameBag (cond b (h ∷ g ∷ gs) (g ∷ put_by_place h gs)) (h ∷ g ∷ gs)) [
      | true ↦ stays (h ∷ g ∷ gs)
      | false ↦ joined (g ∷ put_by_place h gs) (g ∷ h ∷ gs) (h ∷ g ∷ gs) (following g (put_by_place h gs) (h ∷ gs) (put_bag h gs)) (turned g h gs)
    ]

pub place_bag : {K : Type 0} (hs : List (ℕ × K)) → SameBag (by_place hs) hs
place_bag [] = stays []
place_bag (h ∷ hs) = joined (put_by_place h (by_place hs)) (h ∷ by_place hs) (h ∷ hs) (put_bag h (by_place hs)) (following h (by_place hs) hs (place_bag hs))

-- ---- a walk over the places

-- the keys that have places a, a + 1 and so on, each beside its place
abbrev walk : {K : Type 0} → ℕ → ℕ → List (ℕ × K) → List (ℕ × K)
walk a n hs = filter_map (λ p. option_map (λ k. (p, k)) (lookup (nat_eq p) hs)) (range_with_len a n)

-- each place is below n, and has one key
abbrev pub AreApart : {K : Type 0} → ℕ → List (ℕ × K) → Type 0
AreApart n [] = Unit {0}
AreApart n (h ∷ hs) = (h.0 < n) × ((lookup (nat_eq h.0) hs ≡ None) × AreApart n hs)

abbrev met : {K : Type 0} → ℕ → Option K → List (ℕ × K) → List (ℕ × K)
met a o rest = cons_option (option_map (λ k. (a, k)) o) rest

walk_none : {K : Type 0} (a n : ℕ) → walk {K = K} a n [] ≡ []
walk_none a zero = refl
walk_none a (suc n) = walk_none (a + 1) n

-- a place before the walk isn't met
walk_after : {K : Type 0} (p : ℕ) (k : K) (a n : ℕ) (hs : List (ℕ × K)) → p < a → walk a n ((p, k) ∷ hs) ≡ walk a n hs
walk_after p k a zero hs below = refl
walk_after p k a (suc n) hs below =
    ap (λ b. met a (cond b (Some k) (lookup (nat_eq a) hs)) (walk (a + 1) n ((p, k) ∷ hs))) (nat_above a p below)
    ∙ ap (λ rest. met a (lookup (nat_eq a) hs) rest) (walk_after p k (a + 1) n hs (omega arith))

-- and its key goes before all that are met
walk_front : {K : Type 0} (p : ℕ) (k : K) (a n : ℕ) (hs : List (ℕ × K)) → p < a → put_by_place (p, k) (walk a n hs) ≡ (p, k) ∷ walk a n hs
walk_front p k a zero hs below = refl
walk_front {K = K} p k a (suc n) hs below = by_first (walk_front p k (a + 1) n hs (omega arith)) (lookup (nat_eq a) hs)
  where
    by_first : put_by_place (p, k) (walk (a + 1) n hs) ≡ (p, k) ∷ walk (a + 1) n hs → (o : Option K) → put_by_place (p, k) (met a o (walk (a + 1) n hs)) ≡ (p, k) ∷ met a o (walk (a + 1) n hs)
    by_first front None = front
    by_first front (Some x) = let low : p ≤ a = omega arith in
        ap (λ b. cond b ((p, k) ∷ (a, x) ∷ walk (a + 1) n hs) ((a, x) ∷ put_by_place (p, k) (walk (a + 1) n hs))) (le-leb p a low)

-- a key with a place among those that are walked over is met at it
walk_put : {K : Type 0} (p : ℕ) (k : K) (a n : ℕ) (hs : List (ℕ × K)) → a ≤ p → p < a + n → lookup (nat_eq p) hs ≡ None → put_by_place (p, k) (walk a n hs) ≡ walk a n ((p, k) ∷ hs)
walk_put p k a zero hs low high free = absurd (omega arith)
walk_put {K = K} p k a (suc n) hs low high free =
    by_test (nat_eq a p)
    (λ is. let same : a ≡ p = nat_same a p is in
    ap (λ o. put_by_place (p, k) (met a o (walk (a + 1) n hs))) (ap (λ (q : ℕ). lookup (nat_eq q) hs) same ∙ free)
    ∙ walk_front p k (a + 1) n hs (omega arith)
    ∙ ap (λ (q : ℕ). beside q (walk (a + 1) n hs)) (sym same)
    ∙ ap (λ rest. (a, k) ∷ rest) (sym (walk_after p k (a + 1) n hs (omega arith)))
    ∙ sym (ap (λ b. met a (cond b (Some k) (lookup (nat_eq a) hs)) (walk (a + 1) n ((p, k) ∷ hs))) is))
    (λ isnt. let above : a < p = past isnt in
    by_first above (walk_put p k (a + 1) n hs (omega arith) (omega arith) free) (lookup (nat_eq a) hs)
    ∙ sym (ap (λ b. met a (cond b (Some k) (lookup (nat_eq a) hs)) (walk (a + 1) n ((p, k) ∷ hs))) isnt))
  where
    beside : ℕ → List (ℕ × K) → List (ℕ × K)
    beside q rest = (q, k) ∷ rest

    past : nat_eq a p ≡ false → a < p
    past isnt = let other : a ≢ p = λ e. false≢true (sym isnt ∙ ap (nat_eq a) (sym e) ∙ nat_self a) in omega arith

    by_first : a < p → put_by_place (p, k) (walk (a + 1) n hs) ≡ walk (a + 1) n ((p, k) ∷ hs) → (o : Option K) → put_by_place (p, k) (met a o (walk (a + 1) n hs)) ≡ met a o (walk (a + 1) n ((p, k) ∷ hs))
    by_first above later None = later
    by_first above later (Some x) =
        ap (λ b. cond b ((p, k) ∷ (a, x) ∷ walk (a + 1) n hs) ((a, x) ∷ put_by_place (p, k) (walk (a + 1) n hs))) (lt-leb p a above)
        ∙ ap (λ rest. (a, x) ∷ rest) later

-- a walk over all places meets the keys by rising place
walk_all : {K : Type 0} (n : ℕ) (hs : List (ℕ × K)) → AreApart n hs → by_place hs ≡ walk 0 n hs
walk_all n [] apart = sym (walk_none 0 n)
walk_all n (h ∷ hs) apart =
    ap (put_by_place h) (walk_all n hs apart.1.1)
    ∙ walk_put h.0 h.1 0 n hs (omega arith) (let low : h.0 < n = apart.0 in omega arith) apart.1.0

-- cells that show keys with their numbers, in order
cells_walk : {K X : Type 0} (f : K → X) (hs : List (ℕ × K)) (cells : List (Option X)) (a : ℕ) → ((i : ℕ) → cell cells i ≡ option_map f (lookup (nat_eq (a + i)) hs)) → held_in_order cells ≡ map (λ h. f h.1) (walk a (length cells) hs)
cells_walk f hs [] a shown = refl
cells_walk {K = K} {X = X} f hs (c ∷ cells) a shown =
    let here : c ≡ option_map f (lookup (nat_eq a) hs) = shown 0 ∙ ap (λ (q : ℕ). option_map f (lookup (nat_eq q) hs)) (add-zero a) in
    ap (λ o. cons_option o (held_in_order cells)) here
    ∙ ap (cons_option (option_map f (lookup (nat_eq a) hs))) (cells_walk f hs cells (a + 1) (λ i. shown (suc i) ∙ ap (λ (q : ℕ). option_map f (lookup (nat_eq q) hs)) (moved i)))
    ∙ by_first (lookup (nat_eq a) hs)
  where
    moved : (i : ℕ) → a + suc i ≡ a + 1 + i
    moved i = omega arith

    by_first : (o : Option K) → cons_option (option_map f o) (map (λ (h : ℕ × K). f h.1) (walk (a + 1) (length cells) hs)) ≡ map (λ (h : ℕ × K). f h.1) (met a o (walk (a + 1) (length cells) hs))
    by_first None = refl
    by_first (Some k) = refl

-- ---- residents

apart_bagged : {K : Type 0} {same : K → K → Bool} → IsEquivalence same → (xs ys : List K) → SameBag xs ys → Apart same xs → Apart same ys
apart_bagged E _ _ (stays xs) h = h
apart_bagged {same = same} E _ _ (following x xs ys b) h = (all_bag (λ y. same x y ≡ false) xs ys b h.0, apart_bagged E xs ys b h.1)
apart_bagged E _ _ (turned x y xs) h = ((E.symm y x ∙ h.0.0, h.1.0), (h.0.1, h.1.1))
apart_bagged E _ _ (joined xs ys zs b c) h = apart_bagged E ys zs c (apart_bagged E xs ys b h)

module _ {K : Type 0} {same : K → K → Bool} (E : IsEquivalence same) (exact : (x y : K) → same x y ≡ true → x ≡ y) (places : K → List ℕ) (n : ℕ) (within : (k : K) (p : ℕ) → list_any (nat_eq p) (places k) ≡ true → p < n) where
  -- the places are apart, and so are the keys
  record AreHomes (taken : List (ℕ × K)) : Type 0 where
    places_apart : AreApart n taken
    keys_apart : Apart same (map (λ h. h.1) taken)

  homes_at : (taken : List (ℕ × K)) (k : K) → AreHomes taken → seats E exact places taken k ≡ false → (o : Option ℕ) → free_place same places taken k ≡ o → AreHomes (seated_at same places taken k o)
  homes_at taken k h new None free = h
  homes_at taken k h new (Some p) free = record {
    places_apart = (within k p (free_own E exact places taken k p free), (free_empty E exact places taken k p free, h.places_apart));
    keys_apart = (none_all (same k) (map (λ (g : ℕ × K). g.1) taken) new, h.keys_apart);
  }

  homes_offered : (taken : List (ℕ × K)) (k : K) → AreHomes taken → AreHomes (offered E exact places taken k)
  homes_offered taken k h =
      by_test (seats E exact places taken k)
      (λ is. subst (λ (ts : List (ℕ × K)). AreHomes ts) (sym (ap (λ b. cond b taken (seated same places taken k)) is)) h)
      (λ isnt. subst (λ (ts : List (ℕ × K)). AreHomes ts) (sym (ap (λ b. cond b taken (seated same places taken k)) isnt)) (homes_at taken k h isnt (free_place same places taken k) refl))

  residents_apart : (keys : List K) → AreHomes (residents same places keys)
  residents_apart =
      by_pushes (λ (keys : List K). AreHomes (residents same places keys)) (record { places_apart = tt; keys_apart = tt })
      (λ keys k h. subst (λ (ts : List (ℕ × K)). AreHomes ts) (sym (residents_push E exact places keys k)) (homes_offered (residents same places keys) k h))

  -- the resident keys by rising place: each once
  pub by_place_apart : (keys : List K) → Apart same (map (λ h. h.1) (by_place (residents same places keys)))
  by_place_apart keys =
      let taken = residents same places keys in
      apart_bagged E (map (λ (h : ℕ × K). h.1) taken) (map (λ (h : ℕ × K). h.1) (by_place taken)) (bag_map (λ (h : ℕ × K). h.1) taken (by_place taken) (bag_back (by_place taken) taken (place_bag taken))) (residents_apart keys).keys_apart

  -- cells that show the residents, each with a number, hold them by rising place
  pub shown_in_order : {X : Type 0} (f : K → X) (keys : List K) (cells : List (Option X)) → length cells ≡ n → ((p : ℕ) → cell cells p ≡ option_map f (lookup (nat_eq p) (residents same places keys))) →
      held_in_order cells ≡ map f (map (λ h. h.1) (by_place (residents same places keys)))
  shown_in_order f keys cells long shown =
      let taken = residents same places keys in
      cells_walk f taken cells 0 (λ i. shown i ∙ ap (λ (q : ℕ). option_map f (lookup (nat_eq q) taken)) (sym (zero-add i)))
      ∙ ap (λ m. map (λ (h : ℕ × K). f h.1) (walk 0 m taken)) long
      ∙ ap (map (λ (h : ℕ × K). f h.1)) (sym (walk_all n taken (residents_apart keys).places_apart))
      ∙ sym (map_both (λ (h : ℕ × K). h.1) f (by_place taken))

-- the test of residence is that of the keys by rising place
pub homes_test : (depth slots : ℕ) (keys : List Row) (key : Row) → list_any (same_row key) (homes_by_place depth slots keys) ≡ has_home depth slots keys key
homes_test depth slots keys key =
    let taken = homes_of depth slots keys in
    bag_any (same_row key) (map (λ (h : ℕ × Row). h.1) (by_place taken)) (map (λ (h : ℕ × Row). h.1) taken) (bag_map (λ (h : ℕ × Row). h.1) (by_place taken) taken (place_bag taken))

-- only keys that came have a home
pub homes_known : (depth slots : ℕ) (keys : List Row) (key : Row) → list_any (same_row key) (homes_by_place depth slots keys) ≡ true → list_any (same_row key) keys ≡ true
homes_known depth slots keys key is = (residents_keep nat_list_eq_equiv same_row_exact (places_of depth slots) keys).known key (sym (homes_test depth slots keys key) ∙ is)

-- each once
pub homes_apart : (depth slots : ℕ) → 1 ≤ slots → (keys : List Row) → Apart same_row (homes_by_place depth slots keys)
homes_apart depth slots some keys = by_place_apart nat_list_eq_equiv same_row_exact (places_of depth slots) (depth * slots) (within_cells slots depth some) keys
