-- The events of windows: in order once they are sorted, and what they say is what the windows hold.
use Rattle.std.proofs.Common.{Ordering, Less, Equal, Greater, ◌≡◌, ◌⊎◌, inl, inr, ℕ, suc, ◌+◌, ◌*◌, ◌/◌, ◌%◌, ◌^◌, ◌<◌, ◌≤◌, List, [], ◌∷◌, map, length, Bool, true, false, cond, ◌&&◌, ◌||◌, ◌==◌, nat_eq, nat_lt, slice_index, Option, None, Some, IsSomeAnd, refl, ap, sym, ◌∙◌, subst, arith}
use Rattle.std.specs.List.{AllByRecursion, list_any}
use Rattle.std.specs.Option.{option_map_or}
use Rattle.std.specs.Ordering.{nat_cmp, is_gt, ordering_then}
use Rattle.std.proofs.lemmas.Bool.{false≢true, ltb-true}
use Rattle.std.proofs.lemmas.List.Folds.{list_any-append}
use Rattle.sn_base.proofs.BagLemmas.{bag_any}
use Rattle.sn_base.proofs.Lists.{all_append, all_map, all_of, all_two, by_test, nat_same, not_true, or_false}
use Rattle.sn_base.proofs.Tests.{by_order}
use Rattle.sn_base.specs.Groups.{Row}
use Rattle.sn_base.specs.Sorted.{sorted_rows}
use Rattle.sn_refine_laws.proofs.Sorting.{AreOrdered, gt, ordered, sorted_all, sorted_bag}
use Rattle.sn_detect.specs.declared.look.Look.{Look}
use Rattle.sn_detect.specs.declared.stay.Stay.{Stay}
use Rattle.sn_detect.specs.Finding.{event, events_of, found_on, look_events, stays_of}
use Rattle.sn_detect.specs.Keeping.{HoldOn, InTime, Rise}
use Rattle.sn_detect.specs.Looks.{holds, look_at}
use Rattle.sn_detect.specs.Stays.{AreStays, HeldIn, IsInTime, IsPrinted, IsStay, ReportedIn}
use Rattle.sn_detect.proofs.StayLemmas.{Has, InOrder, IsUpTo, either, found_stays, is_event, is_kind, same_stays}

-- ---- sorted events are in order

-- a row is one of an event: it has four columns, of which the second has 64 bits
abbrev IsMade : Row → Type 0
IsMade e = (length e ≡ 4) × (slice_index e 1 < 2 ^ 64)

record Four (e : Row) : Type 0 where
  high : ℕ
  low : ℕ
  w : ℕ
  kind : ℕ
  small : low < 2 ^ 64
  is : e ≡ high ∷ low ∷ w ∷ kind ∷ []

four : (e : Row) → IsMade e → Four e
four [] made = absurd (let long = made.0 in omega (arith, long))
four (a ∷ []) made = absurd (let long = made.0 in omega (arith, long))
four (a ∷ c ∷ []) made = absurd (let long = made.0 in omega (arith, long))
four (a ∷ c ∷ w ∷ []) made = absurd (let long = made.0 in omega (arith, long))
four (a ∷ c ∷ w ∷ kind ∷ []) made = record { high = a; low = c; w = w; kind = kind; small = made.1; is = refl }
four (a ∷ c ∷ w ∷ kind ∷ d ∷ more) made = absurd (let long = made.0 in omega (arith, long))

-- what an order by one number, and then by more, says where the first isn't above the second
not_above : (x y : ℕ) (o : Ordering) → is_gt (ordering_then (nat_cmp x y) o) ≡ false → (x < y) ⊎ ((x ≡ y) × (is_gt o ≡ false))
not_above x y o h =
    by_test (nat_lt x y)
    (λ lt. inl (ltb-true x y lt))
    (λ ge. by_test (x == y)
    (λ eq. let same : nat_cmp x y ≡ Equal = ap (λ b. cond b Less (cond (x == y) Equal Greater)) ge ∙ ap (λ b. cond b Equal Greater) eq in
    inr (nat_same x y eq, sym (ap (λ r. is_gt (ordering_then r o)) same) ∙ h))
    (λ ne. let above : nat_cmp x y ≡ Greater = ap (λ b. cond b Less (cond (x == y) Equal Greater)) ge ∙ ap (λ b. cond b Equal Greater) ne in
    absurd (false≢true (sym h ∙ ap (λ r. is_gt (ordering_then r o)) above))))

upto_of : (a c w k b d u j : ℕ) → c < 2 ^ 64 → d < 2 ^ 64 → gt (a ∷ c ∷ w ∷ k ∷ []) (b ∷ d ∷ u ∷ j ∷ []) ≡ false → IsUpTo (a ∷ c ∷ w ∷ k ∷ []) (b ∷ d ∷ u ∷ j ∷ [])
upto_of a c w k b d u j small little h =
    either (not_above a b (ordering_then (nat_cmp c d) (ordering_then (nat_cmp w u) (ordering_then (nat_cmp k j) Equal))) h)
    (λ less. inl (omega (arith, less, small, little)))
    (λ one. let high = one.0 in either (not_above c d (ordering_then (nat_cmp w u) (ordering_then (nat_cmp k j) Equal)) one.1)
    (λ less. inl (omega (arith, less, high)))
    (λ low. let same = low.0 in inr (
      omega (arith, high, same),
      either (not_above w u (ordering_then (nat_cmp k j) Equal) low.1)
          (λ less. inl less)
          (λ two. inr (two.0, either (not_above k j Equal two.1) (λ less. omega (arith, less)) (λ last. let kinds = last.0 in omega (arith, kinds)))),
    )))

upto_rows : (e x : Row) → Four e → Four x → gt e x ≡ false → IsUpTo e x
upto_rows e x te tx h =
    let last : Row = tx.high ∷ tx.low ∷ tx.w ∷ tx.kind ∷ [] in
    subst (λ (r : Row). IsUpTo r x) (sym te.is)
    (subst (λ (r : Row). IsUpTo (te.high ∷ te.low ∷ te.w ∷ te.kind ∷ []) r) (sym tx.is)
    (upto_of te.high te.low te.w te.kind tx.high tx.low tx.w tx.kind te.small tx.small (sym (ap (λ (r : Row). gt r last) te.is) ∙ sym (ap (gt e) tx.is) ∙ h)))

in_order : (es : List Row) → AllByRecursion IsMade es → AreOrdered es → InOrder es
in_order [] made h = tt
in_order (e ∷ es) made h =
    (all_two IsMade (λ (x : Row). gt e x ≡ false) (IsUpTo e) (λ x is far. upto_rows e x (four e made.0) (four x is) far) es made.1 h.0, in_order es made.1 h.1)

all_made : (looks : List Look) → AllByRecursion IsMade (events_of looks)
all_made [] = tt
all_made (l ∷ looks) = all_append IsMade (look_events l) (events_of looks)
    (all_append IsMade (map (event l.window 1) l.unrefined) (map (event l.window 0) l.refined) (column l.window 1 l.unrefined) (column l.window 0 l.refined)) (all_made looks)
  where
    is_made : (w k n : ℕ) → IsMade (event w k n)
    is_made w k n = (refl, omega arith)

    column : (w k : ℕ) (ns : List ℕ) → AllByRecursion IsMade (map (event w k) ns)
    column w k ns = all_map IsMade (event w k) ns (all_of (λ (n : ℕ). IsMade (event w k n)) (is_made w k) ns)

-- ---- what events say

abbrev reported_or_held : Bool → Look → List ℕ
reported_or_held kind l = cond kind l.refined l.unrefined

-- an address is made of its two halves
whole : (n : ℕ) → n / 2 ^ 64 * 2 ^ 64 + n % 2 ^ 64 ≡ n
whole n = omega arith

mapped : (kind : Bool) (b u w k : ℕ) (c : Bool) → (is_kind kind k && (w == u)) ≡ c → (ns : List ℕ) → list_any (is_event kind b u) (map (event w k) ns) ≡ (c && list_any (nat_eq b) ns)
mapped kind b u w k true e [] = refl
mapped kind b u w k true e (n ∷ ns) =
    ap (λ m. ((is_kind kind k && (w == u)) && nat_eq b m) || list_any (is_event kind b u) (map (event w k) ns)) (whole n)
    ∙ ap (λ t. (t && nat_eq b n) || list_any (is_event kind b u) (map (event w k) ns)) e ∙ ap (λ r. nat_eq b n || r) (mapped kind b u w k true e ns)
mapped kind b u w k false e [] = refl
mapped kind b u w k false e (n ∷ ns) =
    ap (λ m. ((is_kind kind k && (w == u)) && nat_eq b m) || list_any (is_event kind b u) (map (event w k) ns)) (whole n)
    ∙ ap (λ t. (t && nat_eq b n) || list_any (is_event kind b u) (map (event w k) ns)) e ∙ mapped kind b u w k false e ns

in_look : (kind : Bool) (b u : ℕ) (l : Look) → (l.window == u) ≡ true → list_any (is_event kind b u) (look_events l) ≡ holds (reported_or_held kind l) b
in_look false b u l is =
    list_any-append (is_event false b u) (map (event l.window 1) l.unrefined) (map (event l.window 0) l.refined)
    ∙ ap (λ r. r || list_any (is_event false b u) (map (event l.window 0) l.refined)) (mapped false b u l.window 1 true is l.unrefined)
    ∙ ap (λ r. list_any (nat_eq b) l.unrefined || r) (mapped false b u l.window 0 false refl l.refined)
    ∙ or_false (list_any (nat_eq b) l.unrefined)
in_look true b u l is =
    list_any-append (is_event true b u) (map (event l.window 1) l.unrefined) (map (event l.window 0) l.refined)
    ∙ ap (λ r. r || list_any (is_event true b u) (map (event l.window 0) l.refined)) (mapped true b u l.window 1 false refl l.unrefined)
    ∙ mapped true b u l.window 0 true is l.refined

not_in_look : (kind : Bool) (b u : ℕ) (l : Look) → (l.window == u) ≡ false → list_any (is_event kind b u) (look_events l) ≡ false
not_in_look kind b u l isnt =
    list_any-append (is_event kind b u) (map (event l.window 1) l.unrefined) (map (event l.window 0) l.refined)
    ∙ ap (λ r. r || list_any (is_event kind b u) (map (event l.window 0) l.refined)) (mapped kind b u l.window 1 false (none (is_kind kind 1)) l.unrefined)
    ∙ mapped kind b u l.window 0 false (none (is_kind kind 0)) l.refined
  where
    none : (c : Bool) → (c && (l.window == u)) ≡ false
    none true = isnt
    none false = refl

later_alone : (kind : Bool) (b u : ℕ) (v : ℕ) (looks : List Look) → v ≡ u → AllByRecursion (λ (m : Look). suc v ≤ m.window) looks → list_any (is_event kind b u) (events_of looks) ≡ false
later_alone kind b u v [] same later = refl
later_alone kind b u v (m ∷ looks) same later =
    let up = later.0 in
    list_any-append (is_event kind b u) (look_events m) (events_of looks)
    ∙ ap (λ r. r || list_any (is_event kind b u) (events_of looks)) (not_in_look kind b u m (not_true (m.window == u) (λ is. let at = nat_same m.window u is in absurd (omega (arith, at, up, same)))))
    ∙ later_alone kind b u v looks same later.1

said : (kind : Bool) (b u : ℕ) (looks : List Look) → Rise looks → list_any (is_event kind b u) (events_of looks) ≡ holds (option_map_or (reported_or_held kind) (look_at looks u) []) b
said kind b u [] rise = refl
said kind b u (l ∷ looks) rise =
    list_any-append (is_event kind b u) (look_events l) (events_of looks)
    ∙ by_test (l.window == u)
    (λ is. ap (λ r. r || list_any (is_event kind b u) (events_of looks)) (in_look kind b u l is)
    ∙ ap (λ r. holds (reported_or_held kind l) b || r) (later_alone kind b u l.window looks (nat_same l.window u is) rise.0)
    ∙ or_false (holds (reported_or_held kind l) b)
    ∙ sym (ap (λ c. holds (option_map_or (reported_or_held kind) (cond c (Some l) (look_at looks u)) []) b) is))
    (λ isnt. ap (λ r. r || list_any (is_event kind b u) (events_of looks)) (not_in_look kind b u l isnt)
    ∙ said kind b u looks rise.1
    ∙ sym (ap (λ c. holds (option_map_or (reported_or_held kind) (cond c (Some l) (look_at looks u)) []) b) isnt))

abbrev sorted_events : List Look → List Row
sorted_events looks = sorted_rows (events_of looks)

sorted_said : (kind : Bool) (b u : ℕ) (looks : List Look) → Rise looks → list_any (is_event kind b u) (sorted_events looks) ≡ holds (option_map_or (reported_or_held kind) (look_at looks u) []) b
sorted_said kind b u looks rise = bag_any (is_event kind b u) (sorted_events looks) (events_of looks) (sorted_bag (events_of looks)) ∙ said kind b u looks rise

-- what is found of windows that rise are exactly the stays
pub stays_are : (looks : List Look) → Rise looks → AreStays (HeldIn looks) (ReportedIn looks) (stays_of looks)
stays_are looks rise =
    same_stays (Has false (sorted_events looks)) (HeldIn looks) (Has true (sorted_events looks)) (ReportedIn looks)
    (λ b u has. sym (sorted_said false b u looks rise) ∙ has) (λ b u is. sorted_said false b u looks rise ∙ is)
    (λ b u has. sym (sorted_said true b u looks rise) ∙ has) (λ b u is. sorted_said true b u looks rise ∙ is)
    (found_on (sorted_events looks) [])
    (found_stays (sorted_events looks) (in_order (sorted_events looks) (sorted_all IsMade (events_of looks) (all_made looks)) (ordered (events_of looks))))

-- ---- in time

reported_by : (Reported : ℕ → ℕ → Type 0) (a first last t : ℕ) (o : Option ℕ) → IsPrinted Reported a first last o → first ≤ t → t ≤ last → Reported a t → IsSomeAnd o (λ p. p ≤ t)
reported_by Reported a first last t None p from upto reported = absurd (p t from upto reported)
reported_by Reported a first last t (Some q) p from upto reported = by_order t q (λ before. absurd (p.3 t from before reported)) (λ le. le)

weaker_some : (o : Option ℕ) (P Q : ℕ → Type 0) → ((p : ℕ) → P p → Q p) → IsSomeAnd o P → IsSomeAnd o Q
weaker_some None P Q w h = h
weaker_some (Some p) P Q w h = w p h

pub stay_in_time : (looks : List Look) (path : List ℕ) (s : Stay) → 1 ≤ length path → InTime path looks → IsStay (HeldIn looks) (ReportedIn looks) s → IsInTime (length path) s
stay_in_time looks [] s some time h enough = absurd (omega (arith, some))
stay_in_time looks (x ∷ path) s some time h enough =
    let last = length path in
    let from : s.first ≤ s.first + last = omega arith in
    let upto : s.first + last ≤ s.last = omega (arith, enough) in
    let on : HoldOn looks s.address s.first last = λ i le. h.held (s.first + i) (omega arith) (omega (arith, le, upto)) in
    weaker_some s.printed (λ p. p ≤ s.first + last) (λ p. p < s.first + length (x ∷ path)) (λ p le. omega (arith, le))
    (reported_by (ReportedIn looks) s.address s.first s.last (s.first + last) s.printed h.printed from upto (time last s.first s.address refl on))
