-- What is left of several captures begins with its first window.
use Rattle.std.proofs.Common.{◌≡◌, ℕ, suc, ◌<◌, ◌≤◌, List, [], ◌∷◌, ◌++◌, Bool, true, false, not, cond, ◌||◌, min, map, filter, length, drop, Option, None, Some, refl, ap, sym, ◌∙◌, subst, arith}
use Rattle.std.specs.Prelude.{◌==◌, nat_eq, nat_lt}
use Rattle.std.specs.List.{AllByRecursion, flat_map, list_any}
use Rattle.std.proofs.lemmas.Bool.{eqb-true, eq-eqb, eqb-false, ne_eqb, lt-ltb, le-ltb, false≢true}
use Rattle.std.proofs.lemmas.List.Elements.{filter-append}
use Rattle.std.proofs.Math.Nat.{min-eq_left, min-eq_right, min-le_left, min-le_right}
use Rattle.std.proofs.lemmas.List.Folds.{list_any-append}
use Rattle.sn_base.proofs.Lists.{all_append, all_weaker, by_test, or_left, or_right}
use Rattle.sn_base.proofs.Tests.{by_order}
use Rattle.sn_windows_together.specs.Merging.{after_window, head_number, lesser, next_in}
use Rattle.sn_windows_together.specs.Laws.{AreTaken, Rows}
use Rattle.sn_windows_together.specs.Together.{numbers_in, put_number, rising, shared_in, windows_of}
use Rattle.sn_windows.proofs.RunLemmas.{Above, AtLeast, Rises, drop_rises, run_above, run_isnt}
use Rattle.sn_windows.specs.Windows.{in_window, number_at, record_at, run_of}

abbrev isnt : ℕ → ℕ → Bool
isnt w n = not (n == w)

-- ---- numbers in order

put_all : (P : ℕ → Type 0) (n : ℕ) (ms : List ℕ) → P n → AllByRecursion P ms → AllByRecursion P (put_number n ms)
put_all P n [] here all = (here, tt)
put_all P n (m ∷ ms) here all =
    by_test (n == m) (λ is. rw is all)
    (λ no. by_test (nat_lt n m) (λ less. rw (no, less) (here, all)) (λ more. rw (no, more) (all.0, put_all P n ms here all.1)))

pub rising_all : (P : ℕ → Type 0) (ns : List ℕ) → AllByRecursion P ns → AllByRecursion P (rising ns)
rising_all P [] all = tt
rising_all P (n ∷ ns) all = put_all P n (rising ns) all.0 (rising_all P ns all.1)

put_first : (w : ℕ) (ms : List ℕ) → AllByRecursion (λ m. w < m) ms → put_number w ms ≡ w ∷ ms
put_first w [] all = refl
put_first w (m ∷ ms) all = let lt : w < m = all.0 in rw (ne_eqb w m (λ e. omega arith), lt-ltb w m lt) refl

keep_all : (w : ℕ) (ns : List ℕ) → AllByRecursion (λ n. w < n) ns → filter (isnt w) ns ≡ ns
keep_all w [] all = refl
keep_all w (n ∷ ns) all = let lt : w < n = all.0 in rw (ne_eqb n w (λ e. omega arith), keep_all w ns all.1) refl

above_all : (w : ℕ) (ns : List ℕ) → AllByRecursion (λ n. w ≤ n) ns → list_any (nat_eq w) ns ≡ false → AllByRecursion (λ n. w < n) ns
above_all w [] all none = tt
above_all w (n ∷ ns) all none =
    by_test (nat_eq w n)
    (λ is. absurd (false≢true (sym none ∙ or_left (nat_eq w n) (list_any (nat_eq w) ns) is)))
    (λ no. let ne : w ≡ n → ⊥ = eqb-false w n no in let le : w ≤ n = all.0 in (omega arith, above_all w ns all.1 (sym (ap (λ b. b || list_any (nat_eq w) ns) no) ∙ none)))

-- the least number stands first
pub rising_step : (w : ℕ) (ns : List ℕ) → AllByRecursion (λ n. w ≤ n) ns → list_any (nat_eq w) ns ≡ true → rising ns ≡ w ∷ rising (filter (isnt w) ns)
rising_step w [] all some = absurd (false≢true some)
rising_step w (n ∷ ns) all some =
    by_test (n == w)
    (λ is.
    let e : n ≡ w = eqb-true n w is in
    let drops : filter (isnt w) (n ∷ ns) ≡ filter (isnt w) ns = ap (λ b. cond (not b) (n ∷ filter (isnt w) ns) (filter (isnt w) ns)) is in
    let first : put_number n (rising ns) ≡ put_number w (rising ns) = ap (λ k. put_number k (rising ns)) e in
    by_test (list_any (nat_eq w) ns)
    (λ more.
    first ∙ ap (put_number w) (rising_step w ns all.1 more)
    ∙ ap (λ b. cond b (w ∷ rising (filter (isnt w) ns)) (cond (nat_lt w w) (w ∷ w ∷ rising (filter (isnt w) ns)) (w ∷ put_number w (rising (filter (isnt w) ns))))) (eq-eqb w w refl)
    ∙ ap (λ ks. w ∷ rising ks) (sym drops))
    (λ none.
    let above = above_all w ns all.1 none in
    first ∙ put_first w (rising ns) (rising_all (λ m. w < m) ns above) ∙ ap (λ ks. w ∷ rising ks) (sym (drops ∙ keep_all w ns above))))
    (λ no.
    let ne : n ≡ w → ⊥ = eqb-false n w no in
    let le : w ≤ n = all.0 in
    let lt : w < n = omega arith in
    let keeps : filter (isnt w) (n ∷ ns) ≡ n ∷ filter (isnt w) ns = ap (λ b. cond (not b) (n ∷ filter (isnt w) ns) (filter (isnt w) ns)) no in
    let there : list_any (nat_eq w) ns ≡ true = sym (ap (λ b. b || list_any (nat_eq w) ns) (ne_eqb w n (λ e. omega arith))) ∙ some in
    ap (put_number n) (rising_step w ns all.1 there)
    ∙ ap (λ b. cond b (w ∷ rising (filter (isnt w) ns)) (cond (nat_lt n w) (n ∷ w ∷ rising (filter (isnt w) ns)) (w ∷ put_number n (rising (filter (isnt w) ns))))) no
    ∙ ap (λ b. cond b (n ∷ w ∷ rising (filter (isnt w) ns)) (w ∷ put_number n (rising (filter (isnt w) ns)))) (le-ltb n w le)
    ∙ ap (λ ks. w ∷ rising ks) (sym keeps))

-- ---- one capture

module _ {X : Type 0} (w : ℕ) where
  all_numbers : (P : ℕ → Type 0) (l : List (ℕ × X)) → AllByRecursion (λ (p : ℕ × X). P p.0) l → AllByRecursion P (map number_at l)
  all_numbers P [] all = tt
  all_numbers P (p ∷ ps) all = (all.0, all_numbers P ps all.1)

  raised : (v : ℕ) → w < v → (l : List (ℕ × X)) → AtLeast v l → Above w l
  raised v lt l all = all_weaker (λ (p : ℕ × X). v ≤ p.0) (λ (p : ℕ × X). w < p.0) (λ p le. omega (arith, lt, le)) l all

  -- the other numbers are those after the window
  after_numbers : (l : List (ℕ × X)) → AtLeast w l → Rises l → filter (isnt w) (map number_at l) ≡ map number_at (after_window w l)
  after_numbers [] all rises = refl
  after_numbers (p ∷ ps) all rises =
      by_test (p.0 == w)
      (λ is. rw is (after_numbers ps all.1 rises.1))
      (λ no.
      let ne : p.0 ≡ w → ⊥ = eqb-false p.0 w no in
      let le : w ≤ p.0 = all.0 in
      let lt : w < p.0 = omega arith in
      rw no (ap (λ ks. p.0 ∷ ks) (keep_all w (map number_at ps) (all_numbers (λ n. w < n) ps (raised p.0 lt ps rises.0)))))

  later : (v : ℕ) → w < v → (l : List (ℕ × X)) → in_window v l ≡ in_window v (after_window w l)
  later v lt l = ap (map record_at) (run_isnt w v lt l)

-- ---- all captures

abbrev Shared : Type 0
Shared = ℕ × List (List (List ℕ))

abbrev pub all_of : List Rows → List ℕ
all_of ls = flat_map (map number_at) ls

none_left : (ls : List Rows) → next_in ls ≡ None → (all_of ls ≡ []) × ((w : ℕ) → AllByRecursion (AtLeast w) ls)
none_left [] e = (refl, λ w. tt)
none_left ([] ∷ ls) e = let rest = none_left ls e in (rest.0, λ w. (tt, rest.1 w))
none_left ((p ∷ ps) ∷ ls) e = absurd (some_isnt (next_in ls) e)
  where
    some_isnt : (o : Option ℕ) → lesser (Some p.0) o ≡ None → ⊥
    some_isnt None is = cc
    some_isnt (Some m) is = cc

some_same : {a b : ℕ} → ◌≡◌ {A = Option ℕ} (Some a) (Some b) → a ≡ b
some_same e = cc

pub record IsLeast (w : ℕ) (ls : List Rows) : Type 0 where
  pub all : AllByRecursion (AtLeast w) ls
  pub some : list_any (nat_eq w) (all_of ls) ≡ true

least_weaker : (w m : ℕ) → w ≤ m → (ls : List Rows) → AllByRecursion (AtLeast m) ls → AllByRecursion (AtLeast w) ls
least_weaker w m le ls all = all_weaker (AtLeast m) (AtLeast w) (λ l h. all_weaker (λ (p : ℕ × List ℕ). m ≤ p.0) (λ (p : ℕ × List ℕ). w ≤ p.0) (λ p q. omega (arith, le, q)) l h) ls all

found_left : (w : ℕ) (p : ℕ × List ℕ) (ps : Rows) (ls : List Rows) → w ≡ p.0 → list_any (nat_eq w) (all_of ((p ∷ ps) ∷ ls)) ≡ true
found_left w p ps ls e = or_left (nat_eq w p.0) (list_any (nat_eq w) (map number_at ps ++ all_of ls)) (eq-eqb w p.0 e)

found_right : (w : ℕ) (l : Rows) (ls : List Rows) → list_any (nat_eq w) (all_of ls) ≡ true → list_any (nat_eq w) (all_of (l ∷ ls)) ≡ true
found_right w l ls e = list_any-append (nat_eq w) (map number_at l) (all_of ls) ∙ or_right (list_any (nat_eq w) (map number_at l)) (list_any (nat_eq w) (all_of ls)) e

-- the least of a capture's first number and of the least of the others
least_first : (p : ℕ × List ℕ) (ps : Rows) (ls : List Rows) → Rises (p ∷ ps) → (w : ℕ) → w ≤ p.0 → AtLeast w (p ∷ ps)
least_first p ps ls rises w le = (le, all_weaker (λ (q : ℕ × List ℕ). p.0 ≤ q.0) (λ (q : ℕ × List ℕ). w ≤ q.0) (λ q h. omega (arith, le, h)) ps rises.0)

least_both : (p : ℕ × List ℕ) (ps : Rows) (ls : List Rows) → Rises (p ∷ ps) → (w : ℕ) (o : Option ℕ) → next_in ls ≡ o → ((m : ℕ) → next_in ls ≡ Some m → IsLeast m ls) → lesser (Some p.0) o ≡ Some w → IsLeast w ((p ∷ ps) ∷ ls)
least_both p ps ls rises w None none rest is =
    let e : p.0 ≡ w = some_same is in
    record { all = (least_first p ps ls rises w (omega (arith, e)), (none_left ls none).1 w); some = found_left w p ps ls (sym e) }
least_both p ps ls rises w (Some m) next rest is =
    let e : min p.0 m ≡ w = some_same is in
    let others = rest m next in
    let to_first : w ≤ p.0 = subst (λ n. n ≤ p.0) e (min-le_left p.0 m) in
    let to_next : w ≤ m = subst (λ n. n ≤ m) e (min-le_right p.0 m) in
    record {
      all = (least_first p ps ls rises w to_first, least_weaker w m to_next ls others.all);
      some = by_order p.0 m
          (λ less. found_left w p ps ls (sym e ∙ min-eq_left (omega (arith, less))))
          (λ more. let same : w ≡ m = sym e ∙ min-eq_right more in found_right w (p ∷ ps) ls (subst (λ n. list_any (nat_eq n) (all_of ls) ≡ true) (sym same) others.some));
    }

pub least : (ls : List Rows) → AllByRecursion Rises ls → (w : ℕ) → next_in ls ≡ Some w → IsLeast w ls
least [] rises w e = absurd cc
least ([] ∷ ls) rises w e = let rest = least ls rises.1 w e in record { all = (tt, rest.all); some = rest.some }
least ((p ∷ ps) ∷ ls) rises w e = least_both p ps ls rises.0 w (next_in ls) refl (λ m next. least ls rises.1 m next) e

module _ (w : ℕ) where
  afters : (ls : List Rows) → AllByRecursion (AtLeast w) ls → AllByRecursion Rises ls → filter (isnt w) (all_of ls) ≡ all_of (map (after_window w) ls)
  afters [] all rises = refl
  afters (l ∷ ls) all rises =
      filter-append (isnt w) (map number_at l) (all_of ls)
      ∙ ap (λ ns. ns ++ filter (isnt w) (all_of ls)) (after_numbers w l all.0 rises.0)
      ∙ ap (λ ns. map number_at (after_window w l) ++ ns) (afters ls all.1 rises.1)

  each_later : (v : ℕ) → w < v → (ls : List Rows) → map (in_window v) ls ≡ map (in_window v) (map (after_window w) ls)
  each_later v lt [] = refl
  each_later v lt (l ∷ ls) = ap (λ (ts : List (List ℕ)). ts ∷ map (in_window v) ls) (later w v lt l) ∙ ap (λ tss. in_window v (after_window w l) ∷ tss) (each_later v lt ls)

  later_shared : (ls : List Rows) (ns : List ℕ) → AllByRecursion (λ n. w < n) ns → map (shared_in ls) ns ≡ map (shared_in (map (after_window w) ls)) ns
  later_shared ls [] all = refl
  later_shared ls (n ∷ ns) all =
      ap (λ (tss : List (List (List ℕ))). (n, tss) ∷ map (shared_in ls) ns) (each_later n all.0 ls)
      ∙ ap (λ (rest : List Shared). shared_in (map (after_window w) ls) n ∷ rest) (later_shared ls ns all.1)

  afters_above : (ls : List Rows) → AllByRecursion (AtLeast w) ls → AllByRecursion Rises ls → AllByRecursion (λ n. w < n) (all_of (map (after_window w) ls))
  afters_above [] all rises = tt
  afters_above (l ∷ ls) all rises =
      all_append (λ n. w < n) (map number_at (after_window w l)) (all_of (map (after_window w) ls))
      (all_numbers w (λ n. w < n) (after_window w l) (run_above w l all.0 rises.0)) (afters_above ls all.1 rises.1)

-- the windows that are left: the first, and those of what is left after it
pub windows_step : (ls : List Rows) (w : ℕ) → AllByRecursion Rises ls → next_in ls ≡ Some w → windows_of ls ≡ (w, map (in_window w) ls) ∷ windows_of (map (after_window w) ls)
windows_step ls w rises e =
    let l = least ls rises w e in
    let rest = map (after_window w) ls in
    let flat : AllByRecursion (λ n. w ≤ n) (all_of ls) = flat_least w ls l.all in
    let numbers : numbers_in ls ≡ w ∷ numbers_in rest = rising_step w (all_of ls) flat l.some ∙ ap (λ ns. w ∷ rising ns) (afters w ls l.all rises) in
    ap (map (shared_in ls)) numbers
    ∙ ap (λ (ws : List Shared). (w, map (in_window w) ls) ∷ ws) (later_shared w ls (numbers_in rest) (rising_all (λ n. w < n) (all_of rest) (afters_above w ls l.all rises)))
  where
    flat_least : (v : ℕ) (ks : List Rows) → AllByRecursion (AtLeast v) ks → AllByRecursion (λ n. v ≤ n) (all_of ks)
    flat_least v [] all = tt
    flat_least v (k ∷ ks) all = all_append (λ n. v ≤ n) (map number_at k) (all_of ks) (all_numbers v (λ n. v ≤ n) k all.0) (flat_least v ks all.1)

-- none is left
pub windows_end : (ls : List Rows) → next_in ls ≡ None → windows_of ls ≡ []
windows_end ls e = ap (λ ns. map (shared_in ls) (rising ns)) (none_left ls e).0

-- what is left rises still
pub afters_rise : (w : ℕ) (ls : List Rows) → AllByRecursion Rises ls → AllByRecursion Rises (map (after_window w) ls)
afters_rise w [] rises = tt
afters_rise w (l ∷ ls) rises = (drop_rises (run_of w l) l rises.0, afters_rise w ls rises.1)

-- ---- the records of a window, one after another

pub taken_here : {X : Type 0} (w : ℕ) (x : X) (l : List (ℕ × X)) → (in_window w ((w, x) ∷ l) ≡ x ∷ in_window w l) × (after_window w ((w, x) ∷ l) ≡ after_window w l)
taken_here w x l = rw (eq-eqb w w refl) (refl, refl)

none_of : {X : Type 0} (w : ℕ) (qs : List (ℕ × X)) → Above w qs → filter (λ q. q.0 == w) qs ≡ []
none_of w [] above = refl
none_of w (q ∷ qs) above = let gt : w < q.0 = above.0 in rw (ne_eqb q.0 w (λ e. omega arith)) (none_of w qs above.1)

pub none_here : {X : Type 0} (w : ℕ) (l : List (ℕ × X)) → AtLeast w l → Rises l → (head_number l ≡ Some w → ⊥) → (in_window w l ≡ []) × (after_window w l ≡ l)
none_here w [] all rises other = (refl, refl)
none_here w (p ∷ ps) all rises other =
    let ne : p.0 ≡ w → ⊥ = λ e. other (ap Some e) in
    let no : (p.0 == w) ≡ false = ne_eqb p.0 w ne in
    let le : w ≤ p.0 = all.0 in
    let lt : w < p.0 = omega arith in
    let above : Above w ps = raised w p.0 lt ps rises.0 in (
      ap (λ b. map record_at (cond b (p ∷ filter (λ q. q.0 == w) ps) (filter (λ q. q.0 == w) ps))) no ∙ ap (map record_at) (none_of w ps above),
      ap (λ b. drop (cond b (suc (run_of w ps)) 0) (p ∷ ps)) no,
    )

pub are_taken : (ls : List Rows) → AllByRecursion Rises ls → AreTaken ls
are_taken ls rises = record { first = λ w e. windows_step ls w rises e; none = windows_end ls }

-- ---- fewer records are left

filter_within : (t : ℕ → Bool) (ns : List ℕ) → length (filter t ns) ≤ length ns
filter_within t [] = omega arith
filter_within t (n ∷ ns) =
    let rest = filter_within t ns in
    by_test (t n)
    (λ is. let one : length (filter t (n ∷ ns)) ≡ suc (length (filter t ns)) = ap (λ b. length (cond b (n ∷ filter t ns) (filter t ns))) is in omega (arith, rest, one))
    (λ no. let same : length (filter t (n ∷ ns)) ≡ length (filter t ns) = ap (λ b. length (cond b (n ∷ filter t ns) (filter t ns))) no in omega (arith, rest, same))

filter_fewer : (w : ℕ) (ns : List ℕ) → list_any (nat_eq w) ns ≡ true → length (filter (isnt w) ns) < length ns
filter_fewer w [] some = absurd (false≢true some)
filter_fewer w (n ∷ ns) some =
    by_test (n == w)
    (λ is.
    let same : length (filter (isnt w) (n ∷ ns)) ≡ length (filter (isnt w) ns) = ap (λ b. length (cond (not b) (n ∷ filter (isnt w) ns) (filter (isnt w) ns))) is in
    let rest = filter_within (isnt w) ns in
    omega (arith, same, rest))
    (λ no.
    let one : length (filter (isnt w) (n ∷ ns)) ≡ suc (length (filter (isnt w) ns)) = ap (λ b. length (cond (not b) (n ∷ filter (isnt w) ns) (filter (isnt w) ns))) no in
    let ne : n ≡ w → ⊥ = eqb-false n w no in
    let there : list_any (nat_eq w) ns ≡ true = sym (ap (λ b. b || list_any (nat_eq w) ns) (ne_eqb w n (λ e. ne (sym e)))) ∙ some in
    let rest = filter_fewer w ns there in
    omega (arith, one, rest))

pub fewer_left : (ls : List Rows) (w : ℕ) → AllByRecursion Rises ls → next_in ls ≡ Some w → length (all_of (map (after_window w) ls)) < length (all_of ls)
fewer_left ls w rises e =
    let l = least ls rises w e in
    subst (λ (ns : List ℕ). length ns < length (all_of ls)) (afters w ls l.all rises) (filter_fewer w (all_of ls) l.some)
