-- Residence of a list with one key more.
use Rattle.std.proofs.Common.{◌≡◌, ℕ, List, [], ◌∷◌, ◌++◌, map, fold, Bool, true, false, not, ◌||◌, cond, nat_eq, Option, Some, None, is_none, refl, ap, sym, subst, ◌∙◌, ◌⊎◌, inl, inr, append_assoc}
use Rattle.std.specs.List.{list_any}
use Rattle.std.specs.Map.{lookup}
use Rattle.std.specs.Cmp.{IsEquivalence}
use Rattle.std.proofs.lemmas.Bool.{false≢true}
use Rattle.std.proofs.lemmas.List.Sums.{fold-append}
use Rattle.sn_base.specs.Groups.{once}
use Rattle.sn_base.proofs.Lists.{by_test, by_pushes, any_push, or_left, or_right, or_false, not_true, not_false, nat_same, nat_self, some_same, none_some, none_is, find_less, find_is, find_among}
use Rattle.sn_base.proofs.OnceLemmas.{once_push}
use Rattle.sn_chain.specs.Residence.{free_place, seated_at, seated, residents, resides}

module _ {K : Type 0} {same : K → K → Bool} (E : IsEquivalence same) (exact : (x y : K) → same x y ≡ true → x ≡ y) (places : K → List ℕ) where
  -- whether a key has a place
  abbrev pub seats : List (ℕ × K) → K → Bool
  seats taken k = list_any (same k) (map (λ h. h.1) taken)

  -- one key more, which may be a repeat
  abbrev pub offered : List (ℕ × K) → K → List (ℕ × K)
  offered taken k = cond (seats taken k) taken (seated same places taken k)

  pub Handled : List (ℕ × K) → K → Type 0
  Handled taken k = (seats taken k ≡ true) ⊎ (free_place same places taken k ≡ None)

  -- each key that came has a place or found none, and each key with a place came
  pub record Keeps (taken : List (ℕ × K)) (keys : List K) : Type 0 where
    pub handled : (k : K) → list_any (same k) keys ≡ true → Handled taken k
    pub known : (k : K) → seats taken k ≡ true → list_any (same k) keys ≡ true

  -- a key without a place finds none later
  still_none : (taken : List (ℕ × K)) (h : ℕ × K) (k : K) → free_place same places taken k ≡ None → free_place same places (h ∷ taken) k ≡ None
  still_none taken h k none =
      find_less (λ p. not (list_any (nat_eq p) (map (λ (g : ℕ × K). g.0) taken))) (λ p. not (list_any (nat_eq p) (map (λ (g : ℕ × K). g.0) (h ∷ taken))))
      (λ p full. ap not (or_right (nat_eq p h.0) (list_any (nat_eq p) (map (λ (g : ℕ × K). g.0) taken)) (not_false _ full))) (places k) none

  -- where there is no free place, nothing is seated
  no_seat : (taken : List (ℕ × K)) (k : K) → free_place same places taken k ≡ None → seated same places taken k ≡ taken
  no_seat taken k none = ap (seated_at same places taken k) none

  -- a key that has a place or found none changes nothing
  offered_same : (taken : List (ℕ × K)) (k : K) → Handled taken k → offered taken k ≡ taken
  unfolding Handled
  offered_same taken k (inl is) = ap (λ b. cond b taken (seated same places taken k)) is
  offered_same taken k (inr none) =
      by_test (seats taken k)
      (λ is. ap (λ b. cond b taken (seated same places taken k)) is)
      (λ isnt. ap (λ b. cond b taken (seated same places taken k)) isnt ∙ no_seat taken k none)

  later : (taken : List (ℕ × K)) (x : K) (h : ℕ × K) → Handled taken x → Handled (h ∷ taken) x
  unfolding Handled
  later taken x h (inl was) = inl (or_right (same x h.1) (seats taken x) was)
  later taken x h (inr none) = inr (still_none taken h x none)

  -- a key that has no place and finds one didn't come
  pub unplaced : (taken : List (ℕ × K)) (k : K) (p : ℕ) → seats taken k ≡ false → free_place same places taken k ≡ Some p → Handled taken k → ⊥
  unfolding Handled
  unplaced taken k p isnt free (inl is) = false≢true (sym isnt ∙ is)
  unplaced taken k p isnt free (inr none) = none_some (sym none ∙ free)

  -- what one key more leaves, by the place that it finds
  keeps_at : (taken : List (ℕ × K)) (keys : List K) (k : K) → Keeps taken keys → (o : Option ℕ) → free_place same places taken k ≡ o → Keeps (seated_at same places taken k o) (keys ++ k ∷ [])
  unfolding Handled
  keeps_at taken keys k keeps None none = record {
    handled = λ x came. by_test (same x k)
        (λ is. inr (subst (λ y. free_place same places taken y ≡ None) (sym (exact x k is)) none))
        (λ isnt. keeps.handled x (sym (any_push (same x) keys k ∙ ap (λ b. list_any (same x) keys || b) isnt ∙ or_false _) ∙ came));
    known = λ x has. any_push (same x) keys k ∙ or_left (list_any (same x) keys) (same x k) (keeps.known x has);
  }
  keeps_at taken keys k keeps (Some p) found = record {
    handled = λ x came. by_test (same x k)
        (λ is. inl (or_left (same x k) (seats taken x) is))
        (λ isnt. later taken x (p, k) (keeps.handled x (sym (any_push (same x) keys k ∙ ap (λ b. list_any (same x) keys || b) isnt ∙ or_false _) ∙ came)));
    known = λ x has. any_push (same x) keys k ∙ by_test (same x k)
        (λ is. or_right (list_any (same x) keys) (same x k) is)
        (λ isnt. or_left (list_any (same x) keys) (same x k) (keeps.known x (sym (ap (λ b. b || seats taken x) isnt) ∙ has)));
  }

  keeps_offered : (taken : List (ℕ × K)) (keys : List K) (k : K) → Keeps taken keys → Keeps (offered taken k) (keys ++ k ∷ [])
  unfolding Handled
  keeps_offered taken keys k keeps =
      by_test (seats taken k)
      (λ is. subst (λ (ts : List (ℕ × K)). Keeps ts (keys ++ k ∷ [])) (sym (ap (λ b. cond b taken (seated same places taken k)) is))
      (record {
        handled = λ x came. by_test (same x k)
            (λ at. inl (subst (λ (y : K). seats taken y ≡ true) (sym (exact x k at)) is))
            (λ isnt. keeps.handled x (sym (any_push (same x) keys k ∙ ap (λ b. list_any (same x) keys || b) isnt ∙ or_false _) ∙ came));
        known = λ x has. any_push (same x) keys k ∙ or_left (list_any (same x) keys) (same x k) (keeps.known x has);
      }))
      (λ isnt. subst (λ (ts : List (ℕ × K)). Keeps ts (keys ++ k ∷ [])) (sym (ap (λ b. cond b taken (seated same places taken k)) isnt))
      (keeps_at taken keys k keeps (free_place same places taken k) refl))

  push_kept : (keys : List K) (k : K) → Keeps (residents same places keys) keys → residents same places (keys ++ k ∷ []) ≡ offered (residents same places keys) k
  push_kept keys k keeps =
      let taken = residents same places keys in
      ap (fold (seated same places) []) (once_push E keys k)
      ∙ by_test (list_any (same k) keys)
      (λ came. ap (λ b. fold (seated same places) [] (cond b (once same keys) (once same keys ++ k ∷ []))) came
      ∙ sym (offered_same taken k (keeps.handled k came)))
      (λ new. let none : seats taken k ≡ false = not_true _ (λ was. false≢true (sym new ∙ keeps.known k was)) in
      ap (λ b. fold (seated same places) [] (cond b (once same keys) (once same keys ++ k ∷ []))) new
      ∙ fold-append (seated same places) [] (once same keys) (k ∷ [])
      ∙ sym (ap (λ b. cond b taken (seated same places taken k)) none))

  pub residents_keep : (keys : List K) → Keeps (residents same places keys) keys
  residents_keep =
      by_pushes (λ (keys : List K). Keeps (residents same places keys) keys)
      (record { handled = λ k no. absurd (false≢true no); known = λ k no. absurd (false≢true no) })
      (λ keys k keeps. subst (λ (ts : List (ℕ × K)). Keeps ts (keys ++ k ∷ [])) (sym (push_kept keys k keeps)) (keeps_offered (residents same places keys) keys k keeps))

  -- one key more takes the first of its places that isn't taken, unless it has one
  pub residents_push : (keys : List K) (k : K) → residents same places (keys ++ k ∷ []) ≡ offered (residents same places keys) k
  residents_push keys k = push_kept keys k (residents_keep keys)

  -- and so do all that follow
  pub residents_more : (more front : List K) → residents same places (front ++ more) ≡ fold offered (residents same places front) more
  residents_more [] front = ap (residents same places) (append_nil front)
    where
      append_nil : (ks : List K) → ks ++ [] ≡ ks
      append_nil [] = refl
      append_nil (x ∷ ks) = ap (λ ys. x ∷ ys) (append_nil ks)
  residents_more (k ∷ more) front =
      ap (residents same places) (sym (append_assoc front (k ∷ []) more))
      ∙ residents_more more (front ++ k ∷ [])
      ∙ ap (λ ts. fold offered ts more) (residents_push front k)

  -- a key that has a place keeps it, and one that found none gets none
  stays_settled : (taken : List (ℕ × K)) (k x : K) → Handled taken k → seats (offered taken x) k ≡ seats taken k
  unfolding Handled
  stays_settled taken k x (inl was) =
      by_test (seats taken x)
      (λ is. ap (λ b. seats (cond b taken (seated same places taken x)) k) is)
      (λ isnt. ap (λ b. seats (cond b taken (seated same places taken x)) k) isnt ∙ grown (free_place same places taken x))
    where
      grown : (o : Option ℕ) → seats (seated_at same places taken x o) k ≡ seats taken k
      grown None = refl
      grown (Some p) = or_right (same k x) (seats taken k) was ∙ sym was
  stays_settled taken k x (inr none) =
      by_test (same k x)
      (λ is. ap (λ ts. seats ts k) (offered_same taken x (inr (subst (λ (y : K). free_place same places taken y ≡ None) (exact k x is) none))))
      (λ isnt. by_test (seats taken x)
      (λ has. ap (λ b. seats (cond b taken (seated same places taken x)) k) has)
      (λ hasnt. ap (λ b. seats (cond b taken (seated same places taken x)) k) hasnt ∙ others isnt (free_place same places taken x)))
    where
      others : same k x ≡ false → (o : Option ℕ) → seats (seated_at same places taken x o) k ≡ seats taken k
      others isnt None = refl
      others isnt (Some p) = ap (λ b. b || seats taken k) isnt

  still_handled : (taken : List (ℕ × K)) (k x : K) → Handled taken k → Handled (offered taken x) k
  still_handled taken k x h =
      by_test (seats taken x)
      (λ is. subst (λ (ts : List (ℕ × K)). Handled ts k) (sym (ap (λ b. cond b taken (seated same places taken x)) is)) h)
      (λ isnt. subst (λ (ts : List (ℕ × K)). Handled ts k) (sym (ap (λ b. cond b taken (seated same places taken x)) isnt)) (grown (free_place same places taken x)))
    where
      grown : (o : Option ℕ) → Handled (seated_at same places taken x o) k
      grown None = h
      grown (Some p) = later taken k (p, x) h

  settled : (more : List K) (taken : List (ℕ × K)) (k : K) → Handled taken k → seats (fold offered taken more) k ≡ seats taken k
  settled [] taken k h = refl
  settled (x ∷ more) taken k h = settled more (offered taken x) k (still_handled taken k x h) ∙ stays_settled taken k x h

  -- whether a key that came resides doesn't depend on the keys that follow
  pub resides_later : (front more : List K) (k : K) → list_any (same k) front ≡ true → resides same places (front ++ more) k ≡ resides same places front k
  resides_later front more k came =
      ap (λ ts. seats ts k) (residents_more more front) ∙ settled more (residents same places front) k ((residents_keep front).handled k came)

  -- ---- places

  -- a key with a place has it among its own, and no other
  pub record Seats (taken : List (ℕ × K)) : Type 0 where
    pub own : (p : ℕ) (x : K) → lookup (nat_eq p) taken ≡ Some x → list_any (nat_eq p) (places x) ≡ true
    pub single : (p q : ℕ) (x : K) → lookup (nat_eq p) taken ≡ Some x → lookup (nat_eq q) taken ≡ Some x → p ≡ q
    pub place : (x : K) → seats taken x ≡ true → (p : ℕ) × (lookup (nat_eq p) taken ≡ Some x)

  -- who has a place is among the residents
  pub among : (taken : List (ℕ × K)) (p : ℕ) (k x : K) → lookup (nat_eq p) taken ≡ Some x → same k x ≡ true → seats taken k ≡ true
  among [] p k x e is = cc
  among (h ∷ taken) p k x e is =
      by_test (nat_eq p h.0)
      (λ here. let eq : h.1 ≡ x = some_same h.1 x (sym (ap (λ b. cond b (Some h.1) (lookup (nat_eq p) taken)) here) ∙ e) in or_left (same k h.1) (seats taken k) (ap (same k) eq ∙ is))
      (λ there. or_right (same k h.1) (seats taken k) (among taken p k x (sym (ap (λ b. cond b (Some h.1) (lookup (nat_eq p) taken)) there) ∙ e) is))

  -- a place is empty where it isn't taken
  pub empty_is : (taken : List (ℕ × K)) (p : ℕ) → is_none (lookup (nat_eq p) taken) ≡ not (list_any (nat_eq p) (map (λ (h : ℕ × K). h.0) taken))
  empty_is [] p = refl
  empty_is (h ∷ taken) p = elim (nat_eq p h.0) as (λ b. is_none (cond b (Some h.1) (lookup (nat_eq p) taken)) ≡ not (b || list_any (nat_eq p) (map (λ (g : ℕ × K). g.0) taken))) [ true ↦ refl | false ↦ empty_is taken p ]

  -- a free place is one of the key's, and has no key
  pub free_own : (taken : List (ℕ × K)) (k : K) (p : ℕ) → free_place same places taken k ≡ Some p → list_any (nat_eq p) (places k) ≡ true
  free_own taken k p found = find_among (λ q. not (list_any (nat_eq q) (map (λ (h : ℕ × K). h.0) taken))) (places k) p found

  pub free_empty : (taken : List (ℕ × K)) (k : K) (p : ℕ) → free_place same places taken k ≡ Some p → lookup (nat_eq p) taken ≡ None
  free_empty taken k p found = none_is (lookup (nat_eq p) taken) (empty_is taken p ∙ find_is (λ q. not (list_any (nat_eq q) (map (λ (h : ℕ × K). h.0) taken))) (places k) p found)

  -- what a place shows after one key more has taken another, or this one
  at_other : (taken : List (ℕ × K)) (k : K) (p q : ℕ) → nat_eq q p ≡ false → lookup (nat_eq q) ((p, k) ∷ taken) ≡ lookup (nat_eq q) taken
  at_other taken k p q isnt = ap (λ b. cond b (Some k) (lookup (nat_eq q) taken)) isnt

  at_this : (taken : List (ℕ × K)) (k : K) (p q : ℕ) → nat_eq q p ≡ true → lookup (nat_eq q) ((p, k) ∷ taken) ≡ Some k
  at_this taken k p q is = ap (λ b. cond b (Some k) (lookup (nat_eq q) taken)) is

  seats_at : (taken : List (ℕ × K)) (k : K) → Seats taken → seats taken k ≡ false → (o : Option ℕ) → free_place same places taken k ≡ o → Seats (seated_at same places taken k o)
  seats_at taken k s new None found = s
  seats_at taken k s new (Some p) found =
      let home = free_own taken k p found in
      let empty = free_empty taken k p found in
      let not_k : (q : ℕ) → lookup (nat_eq q) taken ≡ Some k → ⊥ = λ q e. false≢true (sym new ∙ among taken q k k e (E.refl k)) in
      record {
        own = λ q x e. by_test (nat_eq q p)
            (λ is. let eq : k ≡ x = some_same k x (sym (at_this taken k p q is) ∙ e) in
            subst (λ (y : K). list_any (nat_eq q) (places y) ≡ true) eq (subst (λ (i : ℕ). list_any (nat_eq i) (places k) ≡ true) (sym (nat_same q p is)) home))
            (λ isnt. s.own q x (sym (at_other taken k p q isnt) ∙ e));
        single = λ q r x eq er. by_test (nat_eq q p)
            (λ qp. by_test (nat_eq r p)
            (λ rp. nat_same q p qp ∙ sym (nat_same r p rp))
            (λ rn. let kx : k ≡ x = some_same k x (sym (at_this taken k p q qp) ∙ eq) in
            absurd (not_k r (sym (at_other taken k p r rn) ∙ er ∙ ap (λ y. Some y) (sym kx)))))
            (λ qn. by_test (nat_eq r p)
            (λ rp. let kx : k ≡ x = some_same k x (sym (at_this taken k p r rp) ∙ er) in
            absurd (not_k q (sym (at_other taken k p q qn) ∙ eq ∙ ap (λ y. Some y) (sym kx))))
            (λ rn. s.single q r x (sym (at_other taken k p q qn) ∙ eq) (sym (at_other taken k p r rn) ∙ er)));
        place = λ x has. by_test (same x k)
            (λ is. (p, at_this taken k p p (nat_self p) ∙ ap (λ y. Some y) (sym (exact x k is))))
            (λ isnt. let at = s.place x (sym (ap (λ b. b || seats taken x) isnt) ∙ has) in
            (at.0, at_other taken k p at.0 (not_true (nat_eq at.0 p) (λ e. none_some (sym empty ∙ ap (λ i. lookup (nat_eq i) taken) (sym (nat_same at.0 p e)) ∙ at.1))) ∙ at.1));
      }

  seats_offered : (taken : List (ℕ × K)) (k : K) → Seats taken → Seats (offered taken k)
  seats_offered taken k s =
      by_test (seats taken k)
      (λ is. subst (λ (ts : List (ℕ × K)). Seats ts) (sym (ap (λ b. cond b taken (seated same places taken k)) is)) s)
      (λ isnt. subst (λ (ts : List (ℕ × K)). Seats ts) (sym (ap (λ b. cond b taken (seated same places taken k)) isnt)) (seats_at taken k s isnt (free_place same places taken k) refl))

  pub residents_seated : (keys : List K) → Seats (residents same places keys)
  residents_seated =
      by_pushes (λ (keys : List K). Seats (residents same places keys))
      (record { own = λ p x e. absurd (none_some e); single = λ p q x e f. absurd (none_some e); place = λ x no. absurd (false≢true no) })
      (λ keys k s. subst (λ (ts : List (ℕ × K)). Seats ts) (sym (residents_push keys k)) (seats_offered (residents same places keys) k s))
