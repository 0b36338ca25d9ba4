-- Marks of taken places, and the residents that took them.
use Rattle.std.proofs.Common.{◌≡◌, ℕ, zero, suc, ◌+◌, ◌*◌, ◌≤◌, ◌<◌, List, [], ◌∷◌, ◌++◌, map, take, drop, length, Bool, true, false, not, ◌||◌, cond, set, get_or, replicate, nat_eq, nat_lt, is_some, IfSome, Option, Some, None, refl, ap, sym, ◌∙◌, arith, append_assoc}
use Rattle.std.specs.List.{AllByRecursion, list_any}
use Rattle.std.specs.Prelude.{All}
use Rattle.std.specs.Cmp.Lexicographic.{nat_list_eq_equiv}
use Rattle.std.proofs.lemmas.Bool.{false≢true}
use Rattle.std.proofs.lemmas.Nat.{mod_below}
use Rattle.std.proofs.lemmas.List.Elements.{All-from_recursion}
use Rattle.std.proofs.lemmas.List.{get_or-set_other, get_or-set_same, map-append, take_more, take_all}
use Rattle.sn_base.specs.Groups.{Apart, Row, same_row}
use Rattle.sn_base.proofs.Lists.{any_push, by_test, find_among, find_same, nat_same, nat_self, not_true}
use Rattle.sn_base.proofs.FoldedLemmas.{same_row_exact}
use Rattle.sn_base.specs.Slot.{row_hash, slot}
use Rattle.sn_chain.specs.Chain.{has_home, homes_of, places_of}
use Rattle.sn_chain.specs.Residence.{free_place, seated, seated_at}
use Rattle.sn_chain.proofs.Places.{within_cells}
use Rattle.sn_chain.proofs.ResidenceLemmas.{residents_keep, residents_push, resides_later}
use Rattle.sn_cost_seats.specs.Marks.{free_for, is_free, taken_with}
use Rattle.sn_cost_seats.specs.Seats.{AreBelow, slot_where, slots_for}

-- the places that residents took
abbrev pub places_in : List (ℕ × Row) → List ℕ
places_in taken = map (λ h. h.0) taken

module _ (depth slots : ℕ) where
  abbrev places : Row → List ℕ
  places = places_of depth slots

  pub record Marked (keys : List Row) (place : ℕ) (taken homes : List Bool) : Type 0 where
    pub marks : (p : ℕ) → get_or taken p false ≡ list_any (nat_eq p) (places_in (homes_of depth slots (take place keys)))
    pub done : take place homes ≡ map (has_home depth slots keys) (take place keys)

  no_mark : (n p : ℕ) → get_or (replicate n false) p false ≡ false
  no_mark zero p = refl
  no_mark (suc n) zero = refl
  no_mark (suc n) (suc p) = no_mark n p

  pub none_marked : (keys : List Row) (taken homes : List Bool) (n : ℕ) → taken ≡ replicate n false → Marked keys 0 taken homes
  none_marked keys taken homes n e = record { marks = λ p. ap (λ ms. get_or ms p false) e ∙ no_mark n p; done = refl }

  -- the place that is free by the marks is the one that the key takes
  free_is : (taken : List Bool) (keys : List Row) (key : Row) → ((p : ℕ) → get_or taken p false ≡ list_any (nat_eq p) (places_in (homes_of depth slots keys))) → free_for depth slots taken key ≡ free_place same_row places (homes_of depth slots keys) key
  free_is taken keys key marks = find_same (is_free taken) (λ p. not (list_any (nat_eq p) (places_in (homes_of depth slots keys)))) (λ p. ap not (marks p)) (places key)

  abbrev is_seated : List (ℕ × Row) → Row → Bool
  is_seated taken key = list_any (same_row key) (map (λ (h : ℕ × Row). h.1) taken)

  -- a key that didn't come has no seat
  unseated : (keys : List Row) (key : Row) → list_any (same_row key) keys ≡ false → is_seated (homes_of depth slots keys) key ≡ false
  unseated keys key new = not_true (is_seated (homes_of depth slots keys) key) (λ is. false≢true (sym new ∙ (residents_keep nat_list_eq_equiv same_row_exact places keys).known key is))

  next_homes : (keys : List Row) (key : Row) → list_any (same_row key) keys ≡ false → homes_of depth slots (keys ++ key ∷ []) ≡ seated_at same_row places (homes_of depth slots keys) key (free_place same_row places (homes_of depth slots keys) key)
  next_homes keys key new =
      residents_push nat_list_eq_equiv same_row_exact places keys key
      ∙ ap (λ b. cond b (homes_of depth slots keys) (seated same_row places (homes_of depth slots keys) key)) (unseated keys key new)

  -- a key that is new resides where it finds a free place, whatever follows
  home_is : (keys more : List Row) (key : Row) → list_any (same_row key) keys ≡ false → has_home depth slots (keys ++ key ∷ more) key ≡ is_some (free_place same_row places (homes_of depth slots keys) key)
  home_is keys more key new =
      ap (λ ks. has_home depth slots ks key) (sym (append_assoc keys (key ∷ []) more))
      ∙ resides_later nat_list_eq_equiv same_row_exact places (keys ++ key ∷ []) more key
      (any_push (same_row key) keys key ∙ ap (λ b. list_any (same_row key) keys || b) (nat_list_eq_equiv.refl key) ∙ or_last (list_any (same_row key) keys))
      ∙ ap (λ (ts : List (ℕ × Row)). list_any (same_row key) (map (λ (h : ℕ × Row). h.1) ts)) (next_homes keys key new)
      ∙ by_place (free_place same_row places (homes_of depth slots keys) key)
    where
      or_last : (b : Bool) → (b || true) ≡ true
      or_last true = refl
      or_last false = refl

      by_place : (o : Option ℕ) → list_any (same_row key) (map (λ (h : ℕ × Row). h.1) (seated_at same_row places (homes_of depth slots keys) key o)) ≡ is_some o
      by_place None = unseated keys key new
      by_place (Some p) = ap (λ b. b || list_any (same_row key) (map (λ (h : ℕ × Row). h.1) (homes_of depth slots keys))) (nat_list_eq_equiv.refl key)

  -- the marks with one more
  set_mark : (taken : List Bool) (p q : ℕ) → p < length taken → get_or (set taken p true) q false ≡ (nat_eq q p || get_or taken q false)
  set_mark taken p q lt =
      by_test (nat_eq q p)
      (λ is. ap (λ n. get_or (set taken p true) n false) (nat_same q p is) ∙ get_or-set_same taken p true false lt ∙ sym (ap (λ b. b || get_or taken q false) is))
      (λ isnt. get_or-set_other taken p q true false (λ e. false≢true (sym isnt ∙ ap (nat_eq q) (sym e) ∙ nat_self q)) ∙ sym (ap (λ b. b || get_or taken q false) isnt))

  marks_next : (taken : List Bool) (keys : List Row) (key : Row) (o : Option ℕ) → IfSome o (λ p. p < length taken) → ((p : ℕ) → get_or taken p false ≡ list_any (nat_eq p) (places_in (homes_of depth slots keys)))
      → (q : ℕ) → get_or (taken_with taken o) q false ≡ list_any (nat_eq q) (places_in (seated_at same_row places (homes_of depth slots keys) key o))
  marks_next taken keys key None lt marks q = marks q
  marks_next taken keys key (Some p) lt marks q = set_mark taken p q lt ∙ ap (λ b. nat_eq q p || b) (marks q)

  -- a free place is one of the chain's
  pub free_within : 1 ≤ slots → (taken : List Bool) (key : Row) → length taken ≡ depth * slots → IfSome (free_for depth slots taken key) (λ p. p < length taken)
  free_within some taken key long = by_option (free_for depth slots taken key) (λ p is. let lt = within_cells slots depth some key p (find_among (is_free taken) (places key) p is) in omega (arith, lt, long))
    where
      by_option : (o : Option ℕ) → ((p : ℕ) → o ≡ Some p → p < length taken) → IfSome o (λ p. p < length taken)
      by_option None h = tt
      by_option (Some p) h = h p refl

  -- keys that are apart are new one by one
  new_at : (keys : List Row) (i : ℕ) → i < length keys → Apart same_row keys → list_any (same_row (get_or keys i [])) (take i keys) ≡ false
  new_at [] i lt h = absurd (omega (arith, lt))
  new_at (key ∷ keys) zero lt h = refl
  new_at (key ∷ keys) (suc i) lt h =
      ap (λ b. b || list_any (same_row (get_or keys i [])) (take i keys)) (nat_list_eq_equiv.symm (get_or keys i []) key ∙ far keys i (omega (arith, lt)) h.0)
      ∙ new_at keys i (omega (arith, lt)) h.1
    where
      far : (ks : List Row) (j : ℕ) → j < length ks → AllByRecursion (λ x. same_row key x ≡ false) ks → same_row key (get_or ks j []) ≡ false
      far [] j less all = absurd (omega (arith, less))
      far (x ∷ ks) zero less all = all.0
      far (x ∷ ks) (suc j) less all = far ks j (omega (arith, less)) all.1

  parted : (keys : List Row) (i : ℕ) → i < length keys → take i keys ++ get_or keys i [] ∷ drop (suc i) keys ≡ keys
  parted [] i lt = absurd (omega (arith, lt))
  parted (key ∷ keys) zero lt = refl
  parted (key ∷ keys) (suc i) lt = ap (λ ks. key ∷ ks) (parted keys i (omega (arith, lt)))

  pub one_marked : (keys : List Row) (place : ℕ) (key : Row) (taken later homes new : List Bool) (home : Bool) → place < length keys → key ≡ get_or keys place [] → Apart same_row keys → Marked keys place taken homes
      → IfSome (free_for depth slots taken key) (λ p. p < length taken) → home ≡ is_some (free_for depth slots taken key) → later ≡ taken_with taken (free_for depth slots taken key)
      → take (place + 1) new ≡ take place homes ++ home ∷ [] → Marked keys (place + 1) later new
  one_marked keys place key taken later homes new home lt at apart so_far within is after written =
      let before : List Row = take place keys in
      let fresh : list_any (same_row key) before ≡ false = ap (λ k. list_any (same_row k) before) at ∙ new_at keys place lt apart in
      let free = free_is taken before key so_far.marks in
      let more : take (place + 1) keys ≡ before ++ key ∷ [] = take_more keys place [] lt ∙ ap (λ k. before ++ k ∷ []) (sym at) in
      let whole : before ++ key ∷ drop (suc place) keys ≡ keys = ap (λ k. before ++ k ∷ drop (suc place) keys) at ∙ parted keys place lt in
      let answer : home ≡ has_home depth slots keys key = is ∙ ap is_some free ∙ sym (home_is before (drop (suc place) keys) key fresh) ∙ ap (λ ks. has_home depth slots ks key) whole in
      record {
        marks = λ q.
            ap (λ ms. get_or ms q false) after
            ∙ marks_next taken before key (free_for depth slots taken key) within so_far.marks q
            ∙ ap (λ (o : Option ℕ). list_any (nat_eq q) (places_in (seated_at same_row places (homes_of depth slots before) key o))) free
            ∙ ap (λ (ts : List (ℕ × Row)). list_any (nat_eq q) (places_in ts)) (sym (ap (homes_of depth slots) more ∙ next_homes before key fresh));
        done = written ∙ ap (λ bs. bs ++ home ∷ []) so_far.done ∙ ap (λ b. map (has_home depth slots keys) before ++ b ∷ []) answer ∙ sym (ap (map (has_home depth slots keys)) more ∙ map-append (has_home depth slots keys) before (key ∷ []));
      }

  pub all_marked : (keys : List Row) (place : ℕ) (taken homes : List Bool) → length keys ≤ place → length homes ≤ place → Marked keys place taken homes → homes ≡ map (has_home depth slots keys) keys
  all_marked keys place taken homes le long so_far = sym (take_all place homes long) ∙ so_far.done ∙ ap (map (has_home depth slots keys)) (take_all place keys le)

-- ---- slots of known keys are slots

slot_below : (depth slots register : ℕ) (key : Row) → 1 ≤ slots → slot_where depth slots register key < slots
slot_below depth slots register key some =
    elim (nat_lt register depth) as (λ b. cond b (slot register key slots) 0 < slots) [
      | true ↦ mod_below (row_hash register key) slots (omega (arith, some))
      | false ↦ omega (arith, some)
    ]

pub slots_below : (depth slots : ℕ) (key : Row) → 1 ≤ slots → AreBelow depth slots (slots_for depth slots key)
slots_below depth slots key some zero lt = slot_below depth slots 0 key some
slots_below depth slots key some (suc zero) lt = slot_below depth slots 1 key some
slots_below depth slots key some (suc (suc zero)) lt = slot_below depth slots 2 key some
slots_below depth slots key some (suc (suc (suc zero))) lt = slot_below depth slots 3 key some
slots_below depth slots key some (suc (suc (suc (suc r)))) lt = omega (arith, some)

below_rec : (depth slots : ℕ) → 1 ≤ slots → (rows : List Row) → AllByRecursion (AreBelow depth slots) (map (slots_for depth slots) rows)
below_rec depth slots some [] = tt
below_rec depth slots some (row ∷ rows) = (slots_below depth slots row some, below_rec depth slots some rows)

pub all_below : (depth slots : ℕ) → 1 ≤ slots → (rows : List Row) → All (AreBelow depth slots) (map (slots_for depth slots) rows)
all_below depth slots some rows = All-from_recursion (AreBelow depth slots) (map (slots_for depth slots) rows) (below_rec depth slots some rows)
