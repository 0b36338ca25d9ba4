-- Records that are numbered from a time on, one after another.
use Rattle.std.proofs.Common.{◌≡◌, ℕ, ◌+◌, ◌<◌, ◌≤◌, List, [], ◌∷◌, ◌++◌, Bool, true, false, cond, max, map, filter, fold, length, refl, ap, sym, ◌∙◌, subst, arith}
use Rattle.std.specs.Prelude.{◌==◌, nat_eq, is_some, unwrap_or, Some, ◌&&◌, ◌||◌}
use Rattle.std.specs.List.{AllByRecursion, list_all, list_any}
use Rattle.std.proofs.lemmas.Bool.{eqb-true, eq-eqb, eqb-false, ne_eqb, false≢true, leb-true, le-leb}
use Rattle.std.proofs.lemmas.List.{length-append, map-append}
use Rattle.std.proofs.lemmas.List.Elements.{filter-append}
use Rattle.sn_base.proofs.Lists.{by_test}
use Rattle.sn_base.proofs.OnceLemmas.{any_once}
use Rattle.std.proofs.lemmas.Cmp.{nat_eq_equiv}
use Rattle.sn_windows.specs.Blocks.{all_few, is_few, most_records}
use Rattle.sn_windows.specs.Laws.{itself}
use Rattle.sn_windows.specs.Numbering.{Numbering, begun_at, next_count, next_number, numbered_from, stepped}
use Rattle.sn_windows.specs.Windows.{greatest, in_window, number_at, offset, record_at, windows_of}
use Rattle.sn_windows_together.specs.Since.{number_since, numbered_after, numbered_since}

-- ---- numbers

-- the greatest of numbers, one more
greatest_push : (ns : List ℕ) (k n : ℕ) → fold max k (ns ++ n ∷ []) ≡ max (fold max k ns) n
greatest_push [] k n = refl
greatest_push (m ∷ ms) k n = greatest_push ms (max k m) n

number_push : (window start : ℕ) (times : List ℕ) (t : ℕ) → number_since window start (times ++ t ∷ []) ≡ max (number_since window start times) (offset window start t)
number_push window start times t = ap greatest (map-append (offset window start) times (t ∷ [])) ∙ greatest_push (map (offset window start) times) 0 (offset window start t)

-- what is kept, after records at these times
record StandsAt (window start : ℕ) (s : Numbering) (times : List ℕ) : Type 0 where
  pub window_is : s.window ≡ window
  pub first : s.first ≡ Some start
  pub number : s.number ≡ number_since window start times

module _ (window start : ℕ) where
  next_is : (s : Numbering) (times : List ℕ) (t : ℕ) → StandsAt window start s times → next_number s t ≡ number_since window start (times ++ t ∷ [])
  next_is s times t h =
      ap (λ n. max n (offset s.window (unwrap_or s.first t) t)) h.number
      ∙ ap (λ v. max (number_since window start times) (offset v (unwrap_or s.first t) t)) h.window_is
      ∙ ap (λ f. max (number_since window start times) (offset window (unwrap_or f t) t)) h.first
      ∙ sym (number_push window start times t)

  stands_next : (s : Numbering) (times : List ℕ) (t : ℕ) → StandsAt window start s times → StandsAt window start (stepped s t) (times ++ t ∷ [])
  stands_next s times t h = record { window_is = h.window_is; first = ap (λ f. Some (unwrap_or f t)) h.first; number = next_is s times t h }

  module _ {X : Type 0} (time : X → ℕ) where
    from_is : (s : Numbering) (before : List X) → StandsAt window start s (map time before) → (xs : List X) → numbered_from time s xs ≡ numbered_after time window start before xs
    from_is s before h [] = refl
    from_is s before h (x ∷ xs) =
        let e : map time (before ++ x ∷ []) ≡ map time before ++ time x ∷ [] = map-append time before (x ∷ []) in
        let number : next_number s (time x) ≡ number_since window start (map time (before ++ x ∷ [])) = next_is s (map time before) (time x) h ∙ ap (number_since window start) (sym e) in
        let next : StandsAt window start (stepped s (time x)) (map time (before ++ x ∷ [])) = subst (λ (ts : List ℕ). StandsAt window start (stepped s (time x)) ts) (sym e) (stands_next s (map time before) (time x) h) in
        ap (λ n. (n, x) ∷ numbered_from time (stepped s (time x)) xs) number
        ∙ ap (λ rest. (number_since window start (map time (before ++ x ∷ [])), x) ∷ rest) (from_is (stepped s (time x)) (before ++ x ∷ []) next xs)

    pub numbered_is_since : (xs : List X) → numbered_from time (begun_at start window) xs ≡ numbered_since time window start xs
    numbered_is_since xs = from_is (begun_at start window) [] (record { window_is = refl; first = refl; number = refl }) xs

pub since_is : (window start : ℕ) (times : List ℕ) → numbered_from itself (begun_at start window) times ≡ numbered_since itself window start times
since_is window start times = numbered_is_since window start itself times

-- ---- counts

-- What is counted is how many records so far have the last number, and none has a greater one.
pub record CountsIn {X : Type 0} (s : Numbering) (ps : List (ℕ × X)) : Type 0 where
  pub begun : is_some s.first ≡ true
  pub count : s.count ≡ length (in_window s.number ps)
  pub below : AllByRecursion (λ (p : ℕ × X). p.0 ≤ s.number) ps

all_hold : (t : ℕ → Bool) → ((n : ℕ) → t n ≡ true) → (ns : List ℕ) → list_all t ns ≡ true
all_hold t each [] = refl
all_hold t each (n ∷ ns) = ap (λ b. b && list_all t ns) (each n) ∙ all_hold t each ns

among : (t : ℕ → Bool) (w : ℕ) (ns : List ℕ) → list_all t ns ≡ true → list_any (nat_eq w) ns ≡ true → t w ≡ true
among t w [] all some = absurd (false≢true some)
among t w (n ∷ ns) all some =
    by_test (t n)
    (λ is.
    by_test (nat_eq w n)
    (λ same. ap t (eqb-true w n same) ∙ is)
    (λ other. among t w ns (sym (ap (λ b. b && list_all t ns) is) ∙ all) (sym (ap (λ b. b || list_any (nat_eq w) ns) other) ∙ some)))
    (λ isnt. absurd (false≢true (sym (ap (λ b. b && list_all t ns) isnt) ∙ all)))

module _ {X : Type 0} where
  none_above : (w n : ℕ) → n < w → (ps : List (ℕ × X)) → AllByRecursion (λ (p : ℕ × X). p.0 ≤ n) ps → filter (λ p. p.0 == w) ps ≡ []
  none_above w n lt [] all = refl
  none_above w n lt (p ∷ ps) all = let le : p.0 ≤ n = all.0 in rw (ne_eqb p.0 w (λ e. omega arith)) (none_above w n lt ps all.1)

  window_push : (w : ℕ) (ps : List (ℕ × X)) (p : ℕ × X) → in_window w (ps ++ p ∷ []) ≡ in_window w ps ++ in_window w (p ∷ [])
  window_push w ps p = ap (map record_at) (filter-append (λ q. q.0 == w) ps (p ∷ [])) ∙ map-append record_at (filter (λ q. q.0 == w) ps) (filter (λ q. q.0 == w) (p ∷ []))

  one_here : (w : ℕ) (x : X) → in_window w ((w, x) ∷ []) ≡ x ∷ []
  one_here w x = ap (λ b. map record_at (cond b ((w, x) ∷ []) [])) (eq-eqb w w refl)

  none_here : (w n : ℕ) (x : X) → (n == w) ≡ false → in_window w ((n, x) ∷ []) ≡ []
  none_here w n x isnt = ap (λ b. map record_at (cond b ((n, x) ∷ []) [])) isnt

  -- the count before a record is that of the records so far that have its number
  pub next_counts : (s : Numbering) (ps : List (ℕ × X)) (t : ℕ) → CountsIn s ps → next_count s t ≡ length (in_window (next_number s t) ps)
  next_counts s ps t h =
      by_test (next_number s t == s.number)
      (λ is.
      let e : next_number s t ≡ s.number = eqb-true (next_number s t) s.number is in
      ap (λ b. cond (b && (next_number s t == s.number)) s.count 0) h.begun ∙ ap (λ b. cond b s.count 0) is ∙ h.count ∙ ap (λ n. length (in_window n ps)) (sym e))
      (λ isnt.
      let ne : next_number s t ≡ s.number → ⊥ = eqb-false (next_number s t) s.number isnt in
      let up : s.number ≤ next_number s t = omega arith in
      let lt : s.number < next_number s t = omega arith in
      ap (λ b. cond (b && (next_number s t == s.number)) s.count 0) h.begun ∙ ap (λ b. cond b s.count 0) isnt
      ∙ sym (ap (λ qs. length (map record_at qs)) (none_above (next_number s t) s.number lt ps h.below)))

  weaker : (n m : ℕ) → n ≤ m → (ps : List (ℕ × X)) → AllByRecursion (λ (p : ℕ × X). p.0 ≤ n) ps → AllByRecursion (λ (p : ℕ × X). p.0 ≤ m) ps
  weaker n m le [] all = tt
  weaker n m le (p ∷ ps) all = (omega (arith, le, all.0), weaker n m le ps all.1)

  all_push : (n : ℕ) (ps : List (ℕ × X)) (p : ℕ × X) → AllByRecursion (λ (q : ℕ × X). q.0 ≤ n) ps → p.0 ≤ n → AllByRecursion (λ (q : ℕ × X). q.0 ≤ n) (ps ++ p ∷ [])
  all_push n [] p all le = (le, tt)
  all_push n (q ∷ qs) p all le = (all.0, all_push n qs p all.1 le)

  pub counts_next : (s : Numbering) (ps : List (ℕ × X)) (t : ℕ) (x : X) → CountsIn s ps → CountsIn (stepped s t) (ps ++ (next_number s t, x) ∷ [])
  counts_next s ps t x h =
      let n = next_number s t in
      let up : s.number ≤ n = omega arith in
      record {
        begun = refl;
        count = ap (λ k. k + 1) (next_counts s ps t h)
            ∙ sym (ap length (window_push n ps (n, x) ∙ ap (λ ys. in_window n ps ++ ys) (one_here n x)) ∙ length-append (in_window n ps) (x ∷ []));
        below = all_push n ps (n, x) (weaker s.number n up ps h.below) (omega arith);
      }

  -- ---- windows that have no more records than may be

  abbrev AreFew : List (ℕ × X) → Type 0
  AreFew ps = (w : ℕ) → length (in_window w ps) ≤ most_records

  pub few_next : (s : Numbering) (ps : List (ℕ × X)) (t : ℕ) (x : X) → CountsIn s ps → next_count s t < most_records → AreFew ps → AreFew (ps ++ (next_number s t, x) ∷ [])
  few_next s ps t x h less few w =
      let n = next_number s t in
      let parts : length (in_window w (ps ++ (n, x) ∷ [])) ≡ length (in_window w ps) + length (in_window w ((n, x) ∷ [])) =
      ap length (window_push w ps (n, x)) ∙ length-append (in_window w ps) (in_window w ((n, x) ∷ [])) in
      by_test (n == w)
      (λ is.
      let e : n ≡ w = eqb-true n w is in
      let one : length (in_window w ((n, x) ∷ [])) ≡ 1 = ap (λ b. length (map record_at (cond b ((n, x) ∷ []) []))) is in
      let here : next_count s t ≡ length (in_window w ps) = next_counts s ps t h ∙ ap (λ m. length (in_window m ps)) e in
      omega (arith, parts, one, here, less))
      (λ isnt.
      let none : length (in_window w ((n, x) ∷ [])) ≡ 0 = ap length (none_here w n x isnt) in
      let before : length (in_window w ps) ≤ most_records = few w in
      omega (arith, parts, none, before))

  pub few_all : (ps : List (ℕ × X)) → AreFew ps → all_few ps ≡ true
  few_all ps few = all_hold (λ w. is_few w ps) (λ w. le-leb (length (in_window w ps)) most_records (few w)) (windows_of ps)

  has_number : (w : ℕ) (ps : List (ℕ × X)) → 0 < length (in_window w ps) → list_any (nat_eq w) (map number_at ps) ≡ true
  has_number w [] some = absurd (omega (arith, some))
  has_number w (p ∷ ps) some =
      by_test (p.0 == w)
      (λ is. ap (λ b. b || list_any (nat_eq w) (map number_at ps)) (eq-eqb w p.0 (sym (eqb-true p.0 w is))))
      (λ isnt.
      let rest : 0 < length (in_window w ps) = subst (λ (b : Bool). 0 < length (map record_at (cond b (p ∷ filter (λ q. q.0 == w) ps) (filter (λ q. q.0 == w) ps)))) isnt some in
      ap (λ b. b || list_any (nat_eq w) (map number_at ps)) (ne_eqb w p.0 (λ e. eqb-false p.0 w isnt (sym e))) ∙ has_number w ps rest)

  windows_have : (w : ℕ) (ps : List (ℕ × X)) → 0 < length (in_window w ps) → list_any (nat_eq w) (windows_of ps) ≡ true
  windows_have w ps some = any_once nat_eq_equiv (λ x y e. eqb-true x y e) w (map number_at ps) ∙ has_number w ps some

  -- a window with more records than may be
  pub full_all : (w : ℕ) (ps : List (ℕ × X)) → most_records < length (in_window w ps) → all_few ps ≡ false
  full_all w ps many =
      by_test (all_few ps)
      (λ is.
      let here : is_few w ps ≡ true = among (λ v. is_few v ps) w (windows_of ps) is (windows_have w ps (omega (arith, many))) in
      let le : length (in_window w ps) ≤ most_records = leb-true (length (in_window w ps)) most_records here in
      absurd (omega (arith, le, many)))
      (λ isnt. isnt)

  -- more records in a window stay more, whatever follows
  pub full_stays : (w : ℕ) (ps qs : List (ℕ × X)) → most_records < length (in_window w ps) → most_records < length (in_window w (ps ++ qs))
  full_stays w ps qs many =
      let parts : length (in_window w (ps ++ qs)) ≡ length (in_window w ps) + length (in_window w qs) =
      ap (λ rs. length (map record_at rs)) (filter-append (λ q. q.0 == w) ps qs) ∙ ap length (map-append record_at (filter (λ q. q.0 == w) ps) (filter (λ q. q.0 == w) qs))
      ∙ length-append (in_window w ps) (in_window w qs) in
      omega (arith, parts, many)

  pub full_next : (s : Numbering) (ps : List (ℕ × X)) (t : ℕ) (x : X) → CountsIn s ps → most_records ≤ next_count s t → most_records < length (in_window (next_number s t) (ps ++ (next_number s t, x) ∷ []))
  full_next s ps t x h full =
      let n = next_number s t in
      let parts : length (in_window n (ps ++ (n, x) ∷ [])) ≡ length (in_window n ps) + 1 =
      ap length (window_push n ps (n, x) ∙ ap (λ ys. in_window n ps ++ ys) (one_here n x)) ∙ length-append (in_window n ps) (x ∷ []) in
      let here = next_counts s ps t h in
      omega (arith, parts, here, full)
