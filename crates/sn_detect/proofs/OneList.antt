-- There is only one list of stays.
use Rattle.std.proofs.Common.{◌≡◌, ◌⊎◌, inl, inr, ℕ, zero, suc, ◌<◌, ◌≤◌, List, [], ◌∷◌, Option, None, Some, refl, ap, sym, ◌∙◌, subst, arith}
use Rattle.std.specs.List.{AllByRecursion}
use Rattle.sn_base.proofs.Tests.{by_order}
use Rattle.sn_detect.specs.declared.stay.Stay.{Stay}
use Rattle.sn_detect.specs.Stays.{AreApart, AreStays, Covers, IsBefore, IsCovered, IsPrinted, IsStay}
use Rattle.sn_detect.proofs.StayLemmas.{either}

-- numbers neither of which is below the other are the same
neither_below : (a b : ℕ) → (a < b → ⊥) → (b < a → ⊥) → a ≡ b
neither_below a b below above =
    by_order a b (λ lt. absurd (below lt)) (λ ge. by_order b a (λ lt. absurd (above lt)) (λ le. omega (arith, ge, le)))

-- ---- a stay is one of a list

abbrev IsOneOf : Stay → List Stay → Type 0
IsOneOf s [] = ⊥
IsOneOf s (t ∷ ts) = (s ≡ t) ⊎ IsOneOf s ts

one_holds : (P : Stay → Type 0) (s : Stay) (ts : List Stay) → AllByRecursion P ts → IsOneOf s ts → P s
one_holds P s [] all is = absurd is
one_holds P s (t ∷ ts) all is = either is (λ same. subst P (sym same) all.0) (one_holds P s ts all.1)

record Covering (a w : ℕ) (ts : List Stay) : Type 0 where
  stay : Stay
  covers : Covers a w stay
  among : IsOneOf stay ts

covering : (a w : ℕ) (ts : List Stay) → IsCovered a w ts → Covering a w ts
covering a w [] c = absurd c
covering a w (t ∷ ts) c =
    either c
    (λ covers. record { stay = t; covers = covers; among = inl refl })
    (λ later. let r = covering a w ts later in record { stay = r.stay; covers = r.covers; among = inr r.among })

-- ---- two stays of an address that share a window are the same

module _ (Held Reported : ℕ → ℕ → Type 0) where
  same_print : (a first last : ℕ) (o p : Option ℕ) → IsPrinted Reported a first last o → IsPrinted Reported a first last p → o ≡ p
  same_print a first last None None h k = refl
  same_print a first last None (Some q) h k = absurd (h q k.0 k.1 k.2)
  same_print a first last (Some q) None h k = absurd (k q h.0 h.1 h.2)
  same_print a first last (Some q) (Some r) h k =
      ap (λ n. Some n) (neither_below q r (λ lt. k.3 q h.0 lt h.2) (λ lt. h.3 r k.0 lt k.2))

  not_earlier : (s t : Stay) → IsStay Held Reported s → IsStay Held Reported t → s.address ≡ t.address → (w : ℕ) → t.first ≤ w → w ≤ s.last → s.first < t.first → ⊥
  not_earlier s t h k same w from upto earlier = before t.first refl
    where
      before : (n : ℕ) → n ≡ t.first → ⊥
      before zero at = omega (arith, at, earlier)
      before (suc u) at = k.begins u at (subst (λ b. Held b u) same (h.held u (omega (arith, at, earlier)) (omega (arith, at, from, upto))))

  not_longer : (s t : Stay) → IsStay Held Reported s → IsStay Held Reported t → s.address ≡ t.address → (w : ℕ) → t.first ≤ w → w ≤ s.last → s.last < t.last → ⊥
  not_longer s t h k same w from upto longer =
      h.ends (subst (λ b. Held b (suc s.last)) (sym same) (k.held (suc s.last) (omega (arith, from, upto)) (omega (arith, longer))))

  meeting : (s t : Stay) → IsStay Held Reported s → IsStay Held Reported t → s.address ≡ t.address → (w : ℕ) → s.first ≤ w → w ≤ s.last → t.first ≤ w → w ≤ t.last → s ≡ t
  meeting s t h k same w low high from upto =
      let first : s.first ≡ t.first = neither_below s.first t.first (not_earlier s t h k same w from high) (not_earlier t s k h (sym same) w low upto) in
      let last : s.last ≡ t.last = neither_below s.last t.last (not_longer s t h k same w from high) (not_longer t s k h (sym same) w low upto) in
      let moved : IsPrinted Reported t.address t.first t.last s.printed =
      subst (λ b. IsPrinted Reported b t.first t.last s.printed) same (subst (λ n. IsPrinted Reported s.address n t.last s.printed) first (subst (λ n. IsPrinted Reported s.address s.first n s.printed) last h.printed)) in
      ap (λ b. the_stay b s.first s.last s.printed) same
      ∙ ap (λ n. the_stay t.address n s.last s.printed) first
      ∙ ap (λ n. the_stay t.address t.first n s.printed) last
      ∙ ap (the_stay t.address t.first t.last) (same_print t.address t.first t.last s.printed t.printed moved k.printed)
    where
      the_stay : ℕ → ℕ → ℕ → Option ℕ → Stay
      the_stay a first last printed = record { address = a; first = first; last = last; printed = printed }

  -- each stay of one list is one of the other
  found_in : (xs ys : List Stay) → AreStays Held Reported xs → AreStays Held Reported ys → (s : Stay) → IsOneOf s xs → IsOneOf s ys
  found_in xs ys h k s among =
      let stay : IsStay Held Reported s = one_holds (IsStay Held Reported) s xs h.each among in
      let rising = stay.rising in
      let c = covering s.address s.first ys (k.all s.address s.first (stay.held s.first (omega arith) rising)) in
      let other : IsStay Held Reported c.stay = one_holds (IsStay Held Reported) c.stay ys k.each c.among in
      subst (λ t. IsOneOf t ys) (meeting c.stay s other stay c.covers.0 s.first c.covers.1 c.covers.2 (omega arith) rising) c.among

  -- ---- lists in order with the same members are the same

  not_both : (s t : Stay) → s.first ≤ s.last → t.first ≤ t.last → IsBefore s t → IsBefore t s → ⊥
  not_both s t long wide one two =
      either one
      (λ less. either two (λ more. omega (arith, less, more)) (λ e. let same = e.0 in omega (arith, less, same)))
      (λ d. let here = d.0 in let gap = d.1 in
      either two (λ more. omega (arith, here, more)) (λ e. let back = e.1 in omega (arith, gap, back, long, wide)))

  abbrev AreLong : List Stay → Type 0
  AreLong ss = AllByRecursion (λ (s : Stay). s.first ≤ s.last) ss

  -- a member of a list that isn't the first one is after it
  in_rest : (x : Stay) (xs ys : List Stay) (y : Stay) → x ≡ y → AllByRecursion (IsBefore x) xs → AreLong (x ∷ xs) → (t : Stay) → IsOneOf t xs → IsOneOf t (y ∷ ys) → IsOneOf t ys
  in_rest x xs ys y same before long t among other =
      either other
      (λ is. let later : IsBefore x t = one_holds (IsBefore x) t xs before among in
      absurd (not_both x x long.0 long.0 (subst (IsBefore x) (is ∙ sym same) later) (subst (IsBefore x) (is ∙ sym same) later)))
      (λ rest. rest)

  same_members : (xs ys : List Stay) → AreApart xs → AreApart ys → AreLong xs → AreLong ys → ((t : Stay) → IsOneOf t xs → IsOneOf t ys) → ((t : Stay) → IsOneOf t ys → IsOneOf t xs) → xs ≡ ys
  same_members [] [] h k l m to back = refl
  same_members [] (y ∷ ys) h k l m to back = absurd (back y (inl refl))
  same_members (x ∷ xs) [] h k l m to back = absurd (to x (inl refl))
  same_members (x ∷ xs) (y ∷ ys) h k l m to back =
      let same : x ≡ y = either (to x (inl refl)) (λ is. is)
      (λ later. either (back y (inl refl)) (λ is. sym is)
      (λ earlier. absurd (not_both x y l.0 m.0 (one_holds (IsBefore x) y xs h.0 earlier) (one_holds (IsBefore y) x ys k.0 later)))) in
      ap (λ z. z ∷ xs) same
      ∙ ap (λ zs. y ∷ zs)
      (same_members xs ys h.1 k.1 l.1 m.1
      (λ t among. in_rest x xs ys y same h.0 l t among (to t (inr among)))
      (λ t among. in_rest y ys xs x (sym same) k.0 m t among (back t (inr among))))

  long_all : (ss : List Stay) → AllByRecursion (IsStay Held Reported) ss → AreLong ss
  long_all [] all = tt
  long_all (s ∷ ss) all = ((all.0).rising, long_all ss all.1)

  pub one_list : (xs ys : List Stay) → AreStays Held Reported xs → AreStays Held Reported ys → xs ≡ ys
  one_list xs ys h k =
      same_members xs ys h.apart k.apart (long_all xs h.each) (long_all ys k.each) (found_in xs ys h k) (found_in ys xs k h)
