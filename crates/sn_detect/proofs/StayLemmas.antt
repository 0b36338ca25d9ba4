-- What is found of events in order: exactly the stays of what they hold.
use Rattle.std.proofs.Common.{◌≡◌, ◌⊎◌, inl, inr, ℕ, suc, ◌-◌, ◌<◌, ◌≤◌, List, [], ◌∷◌, Bool, true, false, cond, not, ◌&&◌, ◌||◌, ◌==◌, nat_eq, nat_le, slice_index, Option, None, Some, refl, ap, sym, ◌∙◌, subst, arith}
use Rattle.std.specs.List.{AllByRecursion, list_any}
use Rattle.std.proofs.lemmas.Bool.{false≢true}
use Rattle.sn_base.proofs.Lists.{all_two, all_weaker, and_both, and_parts, by_test, nat_same, nat_self, or_left, or_right}
use Rattle.sn_base.proofs.Tests.{at_most, by_order, not_at_most}
use Rattle.sn_base.specs.Groups.{Row}
use Rattle.sn_detect.specs.declared.stay.Stay.{Stay}
use Rattle.sn_detect.specs.Finding.{address_in, begun, found_on, from_window, meets, reported_in, with_held, with_reported}
use Rattle.sn_detect.specs.Stays.{AreStays, IsBefore, IsCovered, IsPrinted, IsStay}

pub either : {A B G : Type 0} → A ⊎ B → (A → G) → (B → G) → G
either (inl a) f g = f a
either (inr b) f g = g b

or_which : (a b : Bool) → (a || b) ≡ true → (a ≡ true) ⊎ (b ≡ true)
or_which true b h = inl refl
or_which false b h = inr h

le_of : (a b : ℕ) → nat_le a b ≡ true → a ≤ b
le_of a b is = by_order b a (λ lt. absurd (false≢true (sym (not_at_most a b lt) ∙ is))) (λ le. le)

-- ---- whether a stay is gone on with

record Meets (a w : ℕ) (s : Stay) : Type 0 where
  address : s.address ≡ a
  low : w ≤ s.first
  high : s.first ≤ suc w

meets_parts : (a w : ℕ) (s : Stay) → meets a w s ≡ true → Meets a w s
meets_parts a w s is =
    let one = and_parts (s.address == a) (nat_le w s.first && nat_le (s.first - w) 1) is in
    let two = and_parts (nat_le w s.first) (nat_le (s.first - w) 1) one.1 in
    let low : w ≤ s.first = le_of w s.first two.0 in
    let near : s.first - w ≤ 1 = le_of (s.first - w) 1 two.1 in
    record { address = nat_same s.address a one.0; low = low; high = omega (arith, low, near) }

same_address : (s : Stay) (a : ℕ) → s.address ≡ a → nat_eq s.address a ≡ true
same_address s a e = sym (ap (nat_eq s.address) e) ∙ nat_self s.address

not_met : (a w : ℕ) (s : Stay) → meets a w s ≡ false → s.address ≡ a → w ≤ s.first → suc w < s.first
not_met a w s isnt same low =
    by_order (suc w) s.first
    (λ lt. lt)
    (λ high. let near : s.first - w ≤ 1 = omega (arith, low, high) in
    absurd (false≢true (sym isnt ∙ and_both (s.address == a) (nat_le w s.first && nat_le (s.first - w) 1) (same_address s a same) (and_both (nat_le w s.first) (nat_le (s.first - w) 1) (at_most w s.first low) (at_most (s.first - w) 1 near)))))

-- ---- the same of what is held and reported

same_printed : (Reported Said : ℕ → ℕ → Type 0) → ((a w : ℕ) → Reported a w → Said a w) → ((a w : ℕ) → Said a w → Reported a w) → (a first last : ℕ) (o : Option ℕ) → IsPrinted Reported a first last o → IsPrinted Said a first last o
same_printed Reported Said to back a first last None p = λ w from upto is. p w from upto (back a w is)
same_printed Reported Said to back a first last (Some q) p = (p.0, p.1, to a q p.2, λ w from lt is. p.3 w from lt (back a w is))

pub same_stays : (Held Had Reported Said : ℕ → ℕ → Type 0) → ((a w : ℕ) → Held a w → Had a w) → ((a w : ℕ) → Had a w → Held a w) → ((a w : ℕ) → Reported a w → Said a w) → ((a w : ℕ) → Said a w → Reported a w) → (ss : List Stay) → AreStays Held Reported ss → AreStays Had Said ss
same_stays Held Had Reported Said had held said reported ss h =
    record { each = all_weaker (IsStay Held Reported) (IsStay Had Said) same ss h.each; all = λ a w is. h.all a w (held a w is); apart = h.apart }
  where
    same : (s : Stay) → IsStay Held Reported s → IsStay Had Said s
    same s g = record {
      rising = g.rising;
      held = λ w from upto. had s.address w (g.held w from upto);
      ends = λ is. g.ends (held s.address (suc s.last) is);
      begins = λ w next is. g.begins w next (held s.address w is);
      printed = same_printed Reported Said said reported s.address s.first s.last s.printed g.printed;
    }

-- ---- one event more, before all that are held

module _ (Held Reported : ℕ → ℕ → Type 0) (a w : ℕ) (low : (b u : ℕ) → Held b u → (a < b) ⊎ ((a ≡ b) × (w ≤ u))) where
  first_held : (s : Stay) → IsStay Held Reported s → (a < s.address) ⊎ ((a ≡ s.address) × (w ≤ s.first))
  first_held s h = let rising = h.rising in low s.address s.first (h.held s.first (omega arith) rising)

  -- it is held now
  module _ (Now : ℕ → ℕ → Type 0) (here : Now a w) (old : (b u : ℕ) → Held b u → Now b u) (only : (b u : ℕ) → Now b u → ((a ≡ b) × (w ≡ u)) ⊎ Held b u) (none : Reported a w → ⊥) where
    abbrev Far : Stay → Type 0
    Far t = a ≡ t.address → suc w < t.first

    keep : (t : Stay) → IsStay Held Reported t → Far t → IsStay Now Reported t
    keep t h far =
        let rising = h.rising in
        record {
          rising = rising;
          held = λ u from upto. old t.address u (h.held u from upto);
          ends = λ is. either (only t.address (suc t.last) is) (λ e. let f = far e.0 in let same = e.1 in absurd (omega (arith, f, rising, same))) h.ends;
          begins = λ u next is. either (only t.address u is) (λ e. let f = far e.0 in let same = e.1 in absurd (omega (arith, f, next, same))) (h.begins u next);
          printed = h.printed;
        }

    begun_stay : (Held a (suc w) → ⊥) → IsStay Now Reported (begun a w)
    begun_stay alone = record {
      rising = omega arith;
      held = λ u from upto. let at : w ≡ u = omega (arith, from, upto) in subst (λ (n : ℕ). Now a n) at here;
      ends = λ is. either (only a (suc w) is) (λ e. let same = e.1 in absurd (omega (arith, same))) alone;
      begins = λ u next is. either (only a u is)
          (λ e. let same = e.1 in absurd (omega (arith, same, next)))
          (λ was. either (low a u was) (λ less. absurd (omega (arith, less))) (λ e. let le = e.1 in absurd (omega (arith, le, next))));
      printed = λ u from upto reported. let at : u ≡ w = omega (arith, from, upto) in none (subst (λ (n : ℕ). Reported a n) at reported);
    }

    begun_all : (ss : List Stay) → AreStays Held Reported ss → (b u : ℕ) → Now b u → IsCovered b u (begun a w ∷ ss)
    begun_all ss h b u is =
        either (only b u is)
        (λ e. let same = e.1 in inl (e.0, omega (arith, same), omega (arith, same)))
        (λ was. inr (h.all b u was))

    merged : (s : Stay) (ss : List Stay) → AreStays Held Reported (s ∷ ss) → Meets a w s → AreStays Now Reported (from_window w s ∷ ss)
    merged s ss h m =
        let g = h.each.0 in
        let rising = g.rising in
        let wide = m.low in
        let near = m.high in
        let one : IsStay Now Reported (from_window w s) = record {
          rising = omega (arith, wide, rising);
          held = λ u from upto. by_order u s.first
              (λ before. let at : w ≡ u = omega (arith, from, before, near) in subst (λ (b : ℕ). Now b u) (sym m.address) (subst (λ (n : ℕ). Now a n) at here))
              (λ le. old s.address u (g.held u le upto));
          ends = λ is. either (only s.address (suc s.last) is) (λ e. let same = e.1 in absurd (omega (arith, same, wide, rising))) g.ends;
          begins = λ u next is. either (only s.address u is)
              (λ e. let same = e.1 in absurd (omega (arith, same, next)))
              (λ was. either (low s.address u was) (λ less. let same = m.address in absurd (omega (arith, less, same))) (λ e. let le = e.1 in absurd (omega (arith, le, next))));
          printed = lower s.printed g.printed;
        } in
        record {
          each = (one, all_two (IsStay Held Reported) (IsBefore s) (IsStay Now Reported) (λ t stay before. keep t stay (far t before)) ss h.each.1 h.apart.0);
          all = λ b u is. either (only b u is)
              (λ e. let same = e.1 in inl (m.address ∙ e.0, omega (arith, same), omega (arith, same, wide, rising)))
              (λ was. either (h.all b u was) (λ covers. let from = covers.1 in inl (covers.0, omega (arith, from, wide), covers.2)) (λ later. inr later));
          apart = (all_weaker (IsBefore s) (IsBefore (from_window w s)) (λ t before. before) ss h.apart.0, h.apart.1);
        }
      where
        far : (t : Stay) → IsBefore s t → Far t
        far t before same =
            let wide = m.low in
            let one = m.address in
            let rising : s.first ≤ s.last = (h.each.0).rising in
            either before (λ less. absurd (omega (arith, less, same, one))) (λ e. let gap = e.1 in omega (arith, gap, rising, wide))

        lower : (o : Option ℕ) → IsPrinted Reported s.address s.first s.last o → IsPrinted Reported s.address w s.last o
        lower None p = λ u from upto reported. by_order u s.first
            (λ before. let near = m.high in let at : u ≡ w = omega (arith, from, before, near) in none (subst (λ (n : ℕ). Reported a n) at (subst (λ (b : ℕ). Reported b u) m.address reported)))
            (λ le. p u le upto reported)
        lower (Some q) p =
            let wide = m.low in
            let from_first = p.0 in (
              omega (arith, wide, from_first),
              p.1,
              p.2,
              λ u from lt reported. by_order u s.first
                  (λ before. let near = m.high in let at : u ≡ w = omega (arith, from, before, near) in none (subst (λ (n : ℕ). Reported a n) at (subst (λ (b : ℕ). Reported b u) m.address reported)))
                  (λ le. p.3 u le lt reported),
            )

    apart_from : (s : Stay) (ss : List Stay) → AreStays Held Reported (s ∷ ss) → meets a w s ≡ false → AreStays Now Reported (begun a w ∷ s ∷ ss)
    apart_from s ss h isnt = record {
      each = (begun_stay (λ is. never (s ∷ ss) fars (h.all a (suc w) is)), all_two (IsStay Held Reported) Far (IsStay Now Reported) keep (s ∷ ss) h.each fars);
      all = begun_all (s ∷ ss) h;
      apart = (all_two (IsStay Held Reported) Far (IsBefore (begun a w)) before_all (s ∷ ss) h.each fars, h.apart);
    }
      where
        far_first : Far s
        far_first same =
            either (first_held s h.each.0) (λ less. absurd (omega (arith, less, same))) (λ e. not_met a w s isnt (sym same) e.1)

        far : (t : Stay) → IsBefore s t → Far t
        far t before same =
            let rising : s.first ≤ s.last = (h.each.0).rising in
            either before
            (λ less. either (first_held s h.each.0) (λ above. absurd (omega (arith, less, above, same))) (λ e. let one = e.0 in absurd (omega (arith, less, one, same))))
            (λ e. let gap = e.1 in let first = far_first (same ∙ sym e.0) in omega (arith, gap, first, rising))

        fars : AllByRecursion Far (s ∷ ss)
        fars = (far_first, all_weaker (IsBefore s) Far far ss h.apart.0)

        never : (ts : List Stay) → AllByRecursion Far ts → IsCovered a (suc w) ts → ⊥
        never [] far c = c
        never (t ∷ ts) far c = either c (λ covers. let from = covers.1 in let first = far.0 (sym covers.0) in absurd (omega (arith, from, first))) (never ts far.1)

        before_all : (t : Stay) → IsStay Held Reported t → Far t → IsBefore (begun a w) t
        before_all t stay far_t = either (first_held t stay) (λ less. inl less) (λ e. inr (e.0, far_t e.0))

    pub held_stays : (ss : List Stay) → AreStays Held Reported ss → AreStays Now Reported (with_held a w ss)
    held_stays [] h = record { each = (begun_stay (λ is. h.all a (suc w) is), tt); all = begun_all [] h; apart = (tt, tt) }
    held_stays (s ∷ ss) h =
        by_test (meets a w s)
        (λ is. subst (λ (b : Bool). AreStays Now Reported (cond b (from_window w s ∷ ss) (begun a w ∷ s ∷ ss))) (sym is) (merged s ss h (meets_parts a w s is)))
        (λ isnt. subst (λ (b : Bool). AreStays Now Reported (cond b (from_window w s ∷ ss) (begun a w ∷ s ∷ ss))) (sym isnt) (apart_from s ss h isnt))

  -- it is reported now
  module _ (Now : ℕ → ℕ → Type 0) (here : Now a w) (old : (b u : ℕ) → Reported b u → Now b u) (only : (b u : ℕ) → Now b u → ((a ≡ b) × (w ≡ u)) ⊎ Reported b u) where
    abbrev Above : Stay → Type 0
    Above t = a ≡ t.address → w < t.first

    keep_reported : (t : Stay) → IsStay Held Reported t → Above t → IsStay Held Now t
    keep_reported t h above = record { rising = h.rising; held = h.held; ends = h.ends; begins = h.begins; printed = more t.printed h.printed }
      where
        more : (o : Option ℕ) → IsPrinted Reported t.address t.first t.last o → IsPrinted Now t.address t.first t.last o
        more None p = λ u from upto is. either (only t.address u is)
            (λ e. let first = above e.0 in let same = e.1 in absurd (omega (arith, first, from, same)))
            (p u from upto)
        more (Some q) p = (
          p.0,
          p.1,
          old t.address q p.2,
          λ u from lt is. either (only t.address u is)
              (λ e. let first = above e.0 in let same = e.1 in absurd (omega (arith, first, from, same)))
              (p.3 u from lt),
        )

    printed_now : (s : Stay) (ss : List Stay) → AreStays Held Reported (s ∷ ss) → s.address ≡ a → s.first ≡ w → AreStays Held Now (reported_in w s ∷ ss)
    printed_now s ss h same at =
        let g = h.each.0 in
        let rising = g.rising in
        let one : IsStay Held Now (reported_in w s) = record {
          rising = rising;
          held = g.held;
          ends = g.ends;
          begins = g.begins;
          printed = (omega (arith, at), omega (arith, at, rising), subst (λ (b : ℕ). Now b w) (sym same) here, λ u from lt is. absurd (omega (arith, from, lt, at)));
        } in
        record {
          each = (one, all_two (IsStay Held Reported) (IsBefore s) (IsStay Held Now) (λ t stay before. keep_reported t stay (above t before)) ss h.each.1 h.apart.0);
          all = λ b u is. h.all b u is;
          apart = (all_weaker (IsBefore s) (IsBefore (reported_in w s)) (λ t before. before) ss h.apart.0, h.apart.1);
        }
      where
        above : (t : Stay) → IsBefore s t → Above t
        above t before one =
            let rising : s.first ≤ s.last = (h.each.0).rising in
            either before (λ less. absurd (omega (arith, less, same, one))) (λ e. let gap = e.1 in omega (arith, gap, rising, at))

    unprinted : (s : Stay) (ss : List Stay) → AreStays Held Reported (s ∷ ss) → ((s.address == a) && (s.first == w)) ≡ false → AreStays Held Now (s ∷ ss)
    unprinted s ss h isnt = record {
      each = all_two (IsStay Held Reported) Above (IsStay Held Now) keep_reported (s ∷ ss) h.each (above_first, all_weaker (IsBefore s) Above above ss h.apart.0);
      all = h.all;
      apart = h.apart;
    }
      where
        above_first : Above s
        above_first same =
            either (first_held s h.each.0)
            (λ less. absurd (omega (arith, less, same)))
            (λ e. by_order w s.first
            (λ lt. lt)
            (λ le. let from = e.1 in let at : s.first ≡ w = omega (arith, le, from) in
            absurd (false≢true (sym isnt ∙ and_both (s.address == a) (s.first == w) (same_address s a (sym same)) (sym (ap (nat_eq s.first) at) ∙ nat_self s.first)))))

        above : (t : Stay) → IsBefore s t → Above t
        above t before same =
            let rising : s.first ≤ s.last = (h.each.0).rising in
            either before
            (λ less. either (first_held s h.each.0) (λ high. absurd (omega (arith, less, high, same))) (λ e. let one = e.0 in absurd (omega (arith, less, one, same))))
            (λ e. let gap = e.1 in let first = above_first (same ∙ sym e.0) in omega (arith, gap, first, rising))

    pub reported_stays : (ss : List Stay) → AreStays Held Reported ss → AreStays Held Now (with_reported a w ss)
    reported_stays [] h = record { each = tt; all = h.all; apart = tt }
    reported_stays (s ∷ ss) h =
        by_test ((s.address == a) && (s.first == w))
        (λ is. let both = and_parts (s.address == a) (s.first == w) is in
        subst (λ (b : Bool). AreStays Held Now (cond b (reported_in w s ∷ ss) (s ∷ ss))) (sym is) (printed_now s ss h (nat_same s.address a both.0) (nat_same s.first w both.1)))
        (λ isnt. subst (λ (b : Bool). AreStays Held Now (cond b (reported_in w s ∷ ss) (s ∷ ss))) (sym isnt) (unprinted s ss h isnt))

-- ---- all events

abbrev pub is_kind : Bool → ℕ → Bool
is_kind true n = n == 0
is_kind false n = not (n == 0)

-- an event says of an address and a window that it is reported (true) or held (false)
abbrev pub is_event : Bool → ℕ → ℕ → Row → Bool
is_event kind b u e = (is_kind kind (slice_index e 3) && (slice_index e 2 == u)) && nat_eq b (address_in e)

abbrev pub Has : Bool → List Row → ℕ → ℕ → Type 0
Has kind es b u = list_any (is_event kind b u) es ≡ true

record Says (kind : Bool) (b u : ℕ) (e : Row) : Type 0 where
  kind_is : is_kind kind (slice_index e 3) ≡ true
  window : slice_index e 2 ≡ u
  address : b ≡ address_in e

says : (kind : Bool) (b u : ℕ) (e : Row) → is_event kind b u e ≡ true → Says kind b u e
says kind b u e is =
    let one = and_parts (is_kind kind (slice_index e 3) && (slice_index e 2 == u)) (nat_eq b (address_in e)) is in
    let two = and_parts (is_kind kind (slice_index e 3)) (slice_index e 2 == u) one.0 in
    record { kind_is = two.0; window = nat_same (slice_index e 2) u two.1; address = nat_same b (address_in e) one.1 }

own : (kind : Bool) (e : Row) → is_kind kind (slice_index e 3) ≡ true → is_event kind (address_in e) (slice_index e 2) e ≡ true
own kind e is =
    and_both (is_kind kind (slice_index e 3) && (slice_index e 2 == slice_index e 2)) (nat_eq (address_in e) (address_in e))
    (and_both (is_kind kind (slice_index e 3)) (slice_index e 2 == slice_index e 2) is (nat_self (slice_index e 2))) (nat_self (address_in e))

-- an event is at most another one: by address, then by window, and what is reported before what is held
abbrev pub IsUpTo : Row → Row → Type 0
IsUpTo e x = (address_in e < address_in x) ⊎ ((address_in e ≡ address_in x) × ((slice_index e 2 < slice_index x 2) ⊎ ((slice_index e 2 ≡ slice_index x 2) × (slice_index e 3 ≤ slice_index x 3))))

abbrev pub InOrder : List Row → Type 0
InOrder [] = Unit {0}
InOrder (e ∷ es) = AllByRecursion (IsUpTo e) es × InOrder es

after : (kind : Bool) (e : Row) (es : List Row) → AllByRecursion (IsUpTo e) es → (b u : ℕ) → Has kind es b u → (address_in e < b) ⊎ ((address_in e ≡ b) × (slice_index e 2 ≤ u))
after kind e [] upto b u has = absurd (false≢true has)
after kind e (x ∷ es) upto b u has =
    either (or_which (is_event kind b u x) (list_any (is_event kind b u) es) has)
    (λ is. let s = says kind b u x is in
    let address = s.address in
    let window = s.window in
    either upto.0
    (λ less. inl (omega (arith, less, address)))
    (λ same. let one = same.0 in
    inr (omega (arith, one, address), either same.1 (λ lt. omega (arith, lt, window)) (λ two. let at = two.0 in omega (arith, at, window)))))
    (after kind e es upto.1 b u)

zero_is : (n : ℕ) → (n == 0) ≡ true → n ≡ 0
zero_is n is = nat_same n 0 is

-- after an event that is held nothing of its address and window is reported
none_reported : (e : Row) (es : List Row) → (slice_index e 3 == 0) ≡ false → AllByRecursion (IsUpTo e) es → Has true es (address_in e) (slice_index e 2) → ⊥
none_reported e [] isnt upto has = false≢true has
none_reported e (x ∷ es) isnt upto has =
    either (or_which (is_event true (address_in e) (slice_index e 2) x) (list_any (is_event true (address_in e) (slice_index e 2)) es) has)
    (λ is. let s = says true (address_in e) (slice_index e 2) x is in
    let address = s.address in
    let window = s.window in
    let reported : slice_index x 3 ≡ 0 = zero_is (slice_index x 3) s.kind_is in
    either upto.0
    (λ less. absurd (omega (arith, less, address)))
    (λ same. either same.1
    (λ lt. absurd (omega (arith, lt, window)))
    (λ two. let kinds = two.1 in
    let none : slice_index e 3 ≡ 0 = omega (arith, kinds, reported) in
    absurd (false≢true (sym isnt ∙ ap (λ n. n == 0) none)))))
    (none_reported e es isnt upto.1)

pub found_stays : (es : List Row) → InOrder es → AreStays (Has false es) (Has true es) (found_on es [])
found_stays [] h = record { each = tt; all = λ b u is. false≢true is; apart = tt }
found_stays (e ∷ es) h =
    let ss : List Stay = found_on es [] in
    let a : ℕ = address_in e in
    let w : ℕ = slice_index e 2 in
    let before : AreStays (Has false es) (Has true es) ss = found_stays es h.1 in
    by_test (slice_index e 3 == 0)
    (λ is. let here : is_event true a w e ≡ true = own true e is in
    subst (λ (b : Bool). AreStays (Has false (e ∷ es)) (Has true (e ∷ es)) (cond b (with_reported a w ss) (with_held a w ss))) (sym is)
    (same_stays (Has false es) (Has false (e ∷ es)) (Has true (e ∷ es)) (Has true (e ∷ es)) (later false) (λ b u has. not_here false b u (λ kind. absurd (false≢true (sym (ap not is) ∙ kind))) has) (λ b u x. x) (λ b u x. x) (with_reported a w ss)
    (reported_stays (Has false es) (Has true es) a w (after false e es h.0) (Has true (e ∷ es)) (or_left (is_event true a w e) (list_any (is_event true a w) es) here) (later true) (which true) ss before)))
    (λ isnt. let here : is_event false a w e ≡ true = own false e (ap not isnt) in
    subst (λ (b : Bool). AreStays (Has false (e ∷ es)) (Has true (e ∷ es)) (cond b (with_reported a w ss) (with_held a w ss))) (sym isnt)
    (same_stays (Has false (e ∷ es)) (Has false (e ∷ es)) (Has true es) (Has true (e ∷ es)) (λ b u x. x) (λ b u x. x) (later true) (λ b u has. not_here true b u (λ kind. absurd (false≢true (sym isnt ∙ kind))) has) (with_held a w ss)
    (held_stays (Has false es) (Has true es) a w (after false e es h.0) (Has false (e ∷ es)) (or_left (is_event false a w e) (list_any (is_event false a w) es) here) (later false) (which false) (none_reported e es isnt h.0) ss before)))
  where
    later : (kind : Bool) (b u : ℕ) → Has kind es b u → Has kind (e ∷ es) b u
    later kind b u has = or_right (is_event kind b u e) (list_any (is_event kind b u) es) has

    which : (kind : Bool) (b u : ℕ) → Has kind (e ∷ es) b u → ((address_in e ≡ b) × (slice_index e 2 ≡ u)) ⊎ Has kind es b u
    which kind b u has =
        either (or_which (is_event kind b u e) (list_any (is_event kind b u) es) has)
        (λ is. let s = says kind b u e is in inl (sym s.address, s.window))
        (λ rest. inr rest)

    not_here : (kind : Bool) (b u : ℕ) → (is_kind kind (slice_index e 3) ≡ true → ⊥) → Has kind (e ∷ es) b u → Has kind es b u
    not_here kind b u other has =
        either (or_which (is_event kind b u e) (list_any (is_event kind b u) es) has)
        (λ is. let s = says kind b u e is in absurd (other s.kind_is))
        (λ rest. rest)
