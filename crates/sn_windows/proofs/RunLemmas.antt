-- Records whose numbers never fall stand window by window.
use Rattle.std.proofs.Common.{◌≡◌, ℕ, zero, suc, ◌<◌, ◌≤◌, List, [], ◌∷◌, ◌++◌, Bool, true, false, not, cond, ◌&&◌, map, filter, length, take, drop, refl, ap, sym, ◌∙◌, arith}
use Rattle.std.specs.Prelude.{◌==◌, nat_le}
use Rattle.std.specs.List.{AllByRecursion, flat_map, list_all}
use Rattle.std.proofs.lemmas.Bool.{eqb-true, eq-eqb, eqb-false, ne_eqb}
use Rattle.sn_base.proofs.Lists.{by_test}
use Rattle.sn_windows.specs.Windows.{record_at, in_window, windows_of, run_of, first_run}
use Rattle.sn_windows.specs.Blocks.{most_records, is_few, all_few, answered, blocks, while_holds}

-- each is at most those after it
abbrev pub Rises : {X : Type 0} → List (ℕ × X) → Type 0
Rises [] = Unit {0}
Rises (p ∷ ps) = AllByRecursion (λ q. p.0 ≤ q.0) ps × Rises ps

abbrev pub AtLeast : {X : Type 0} → ℕ → List (ℕ × X) → Type 0
AtLeast w ps = AllByRecursion (λ q. w ≤ q.0) ps

abbrev pub Above : {X : Type 0} → ℕ → List (ℕ × X) → Type 0
Above w ps = AllByRecursion (λ q. w < q.0) ps

raised_above : {X : Type 0} (w v : ℕ) → w < v → (ps : List (ℕ × X)) → AtLeast v ps → Above w ps
raised_above w v lt [] h = tt
raised_above w v lt (p ∷ ps) h = (omega (arith, h.0), raised_above w v lt ps h.1)

other : (w n : ℕ) → w ≤ n → (n == w) ≡ false → w < n
other w n le isnt = let ne : n ≡ w → ⊥ = eqb-false n w isnt in omega arith

-- after the run of w all numbers are above it
pub run_above : {X : Type 0} (w : ℕ) (ps : List (ℕ × X)) → AtLeast w ps → Rises ps → Above w (drop (run_of w ps) ps)
run_above w [] h r = tt
run_above w (p ∷ ps) h r =
    by_test (p.0 == w)
    (λ is. rw is (run_above w ps h.1 r.1))
    (λ isnt. let lt = other w p.0 h.0 isnt in rw isnt (lt, raised_above w p.0 lt ps r.0))

pub drop_rises : {X : Type 0} (k : ℕ) (ps : List (ℕ × X)) → Rises ps → Rises (drop k ps)
drop_rises zero ps r = r
drop_rises (suc k) [] r = tt
drop_rises (suc k) (p ∷ ps) r = drop_rises k ps r.1

-- no number above w is w
none_of : {X : Type 0} (w : ℕ) (ps : List (ℕ × X)) → Above w ps → filter (λ q. q.0 == w) ps ≡ []
none_of w [] h = refl
none_of w (p ∷ ps) h =
    let ne : (p.0 == w) ≡ false = ne_eqb p.0 w (λ e. let lt = h.0 in omega arith) in
    rw ne (none_of w ps h.1)

-- the records of w are those of its run
pub run_is : {X : Type 0} (w : ℕ) (ps : List (ℕ × X)) → AtLeast w ps → Rises ps → filter (λ q. q.0 == w) ps ≡ take (run_of w ps) ps
run_is w [] h r = refl
run_is w (p ∷ ps) h r =
    by_test (p.0 == w)
    (λ is. rw (is, run_is w ps h.1 r.1) refl)
    (λ isnt. let lt = other w p.0 h.0 isnt in rw isnt (none_of w ps (raised_above w p.0 lt ps r.0)))

-- those of a later window stand after it
pub run_isnt : {X : Type 0} (w v : ℕ) → w < v → (ps : List (ℕ × X)) → filter (λ q. q.0 == v) ps ≡ filter (λ q. q.0 == v) (drop (run_of w ps) ps)
run_isnt w v lt [] = refl
run_isnt w v lt (p ∷ ps) =
    by_test (p.0 == w)
    (λ is. let e : p.0 ≡ w = eqb-true p.0 w is in
    let ne : (p.0 == v) ≡ false = ne_eqb p.0 v (λ d. omega arith) in
    rw (is, ne) (run_isnt w v lt ps))
    (λ isnt. rw isnt refl)

-- ---- the numbers

filter_all : (t : ℕ → Bool) (P : ℕ → Type 0) → ((n : ℕ) → P n → t n ≡ true) → (ns : List ℕ) → AllByRecursion P ns → filter t ns ≡ ns
filter_all t P all [] h = refl
filter_all t P all (n ∷ ns) h = rw (all n h.0, filter_all t P all ns h.1) refl

filter_twice : (t : ℕ → Bool) (ns : List ℕ) → filter t (filter t ns) ≡ filter t ns
filter_twice t [] = refl
filter_twice t (n ∷ ns) = by_test (t n) (λ is. rw (is, is, filter_twice t ns) refl) (λ isnt. rw isnt (filter_twice t ns))

all_filter : (P : ℕ → Type 0) (t : ℕ → Bool) (ns : List ℕ) → AllByRecursion P ns → AllByRecursion P (filter t ns)
all_filter P t [] h = tt
all_filter P t (n ∷ ns) h = by_test (t n) (λ is. rw is (h.0, all_filter P t ns h.1)) (λ isnt. rw isnt (all_filter P t ns h.1))

pub once_above : {X : Type 0} (w : ℕ) (ps : List (ℕ × X)) → Above w ps → AllByRecursion (λ n. w < n) (windows_of ps)
once_above w [] h = tt
once_above w (p ∷ ps) h = (h.0, all_filter (λ n. w < n) (λ m. not (p.0 == m)) (windows_of ps) (once_above w ps h.1))

pub once_run : {X : Type 0} (w : ℕ) (ps : List (ℕ × X)) → AtLeast w ps → Rises ps → filter (λ m. not (w == m)) (windows_of ps) ≡ windows_of (drop (run_of w ps) ps)
once_run w [] h r = refl
once_run w (p ∷ ps) h r =
    by_test (p.0 == w)
    (λ is. let e : w ≡ p.0 = sym (eqb-true p.0 w is) in
    let s : (w == p.0) ≡ true = eq-eqb w p.0 e in
    let f : filter (λ m. not (p.0 == m)) (windows_of ps) ≡ filter (λ m. not (w == m)) (windows_of ps) = ap (λ n. filter (λ m. not (n == m)) (windows_of ps)) (sym e) in
    rw (is, s) (ap (filter (λ m. not (w == m))) f ∙ filter_twice (λ m. not (w == m)) (windows_of ps) ∙ once_run w ps h.1 r.1))
    (λ isnt. let lt = other w p.0 h.0 isnt in
    rw isnt (filter_all (λ m. not (w == m)) (λ n. w < n) (λ n k. ap not (ne_eqb w n (λ d. omega arith))) (windows_of (p ∷ ps))
    (lt, all_filter (λ n. w < n) (λ m. not (p.0 == m)) (windows_of ps) (once_above w ps (raised_above w p.0 lt ps r.0)))))

-- ---- the blocks

all_over : (t s : ℕ → Bool) (P : ℕ → Type 0) → ((n : ℕ) → P n → t n ≡ s n) → (ns : List ℕ) → AllByRecursion P ns → list_all t ns ≡ list_all s ns
all_over t s P same [] h = refl
all_over t s P same (n ∷ ns) h = rw (same n h.0, all_over t s P same ns h.1) refl

while_over : (t s : ℕ → Bool) (P : ℕ → Type 0) → ((n : ℕ) → P n → t n ≡ s n) → (ns : List ℕ) → AllByRecursion P ns → while_holds t ns ≡ while_holds s ns
while_over t s P same [] h = refl
while_over t s P same (n ∷ ns) h = rw (same n h.0, while_over t s P same ns h.1) refl

all_while : (t : ℕ → Bool) (P : ℕ → Type 0) (ns : List ℕ) → AllByRecursion P ns → AllByRecursion P (while_holds t ns)
all_while t P [] h = tt
all_while t P (n ∷ ns) h = by_test (t n) (λ is. rw is (h.0, all_while t P ns h.1)) (λ isnt. rw isnt tt)

flat_over : (f g : ℕ → List ℕ) (P : ℕ → Type 0) → ((n : ℕ) → P n → f n ≡ g n) → (ns : List ℕ) → AllByRecursion P ns → flat_map f ns ≡ flat_map g ns
flat_over f g P same [] h = refl
flat_over f g P same (n ∷ ns) h = rw (same n h.0, flat_over f g P same ns h.1) refl

module _ {X : Type 0} (block : ℕ → List X → List ℕ) (p : ℕ × X) (ps : List (ℕ × X)) (rises : Rises (p ∷ ps)) where
  abbrev xs : List (ℕ × X)
  xs = p ∷ ps

  abbrev rest : List (ℕ × X)
  rest = drop (first_run xs) xs

  later : (v : ℕ) → p.0 < v → in_window v xs ≡ in_window v rest
  later v lt =
      let ne : (p.0 == v) ≡ false = ne_eqb p.0 v (λ e. omega arith) in
      rw ne (ap (map record_at) (run_isnt p.0 v lt ps))

  here : in_window p.0 xs ≡ map record_at (take (first_run xs) xs)
  here = rw (eq-eqb p.0 p.0 refl, run_is p.0 ps rises.0 rises.1) refl

  pub windows_step : windows_of xs ≡ p.0 ∷ windows_of rest
  windows_step = ap (λ ns. p.0 ∷ ns) (once_run p.0 ps rises.0 rises.1)

  following : AllByRecursion (λ n. p.0 < n) (windows_of rest)
  following = once_above p.0 rest (run_above p.0 ps rises.0 rises.1)

  few_later : (v : ℕ) → p.0 < v → is_few v xs ≡ is_few v rest
  few_later v lt = ap (λ ys. nat_le (length ys) most_records) (later v lt)

  pub few_here : is_few p.0 xs ≡ nat_le (length (map record_at (take (first_run xs) xs))) most_records
  few_here = ap (λ ys. nat_le (length ys) most_records) here

  pub few_step : all_few xs ≡ (is_few p.0 xs && all_few rest)
  few_step = ap (list_all (λ w. is_few w xs)) windows_step ∙ ap (λ b. is_few p.0 xs && b) (all_over (λ w. is_few w xs) (λ w. is_few w rest) (λ n. p.0 < n) few_later (windows_of rest) following)

  pub answered_step : answered xs ≡ cond (is_few p.0 xs) (p.0 ∷ answered rest) []
  answered_step = ap (while_holds (λ w. is_few w xs)) windows_step ∙ ap (λ ns. cond (is_few p.0 xs) (p.0 ∷ ns) []) (while_over (λ w. is_few w xs) (λ w. is_few w rest) (λ n. p.0 < n) few_later (windows_of rest) following)

  block_over : (n : ℕ) → p.0 < n → block n (in_window n xs) ≡ block n (in_window n rest)
  block_over n lt = ap (block n) (later n lt)

  -- the first run is the first window
  pub blocks_step : blocks block xs ≡ cond (nat_le (length (map record_at (take (first_run xs) xs))) most_records) (block p.0 (map record_at (take (first_run xs) xs)) ++ blocks block rest) []
  blocks_step =
      ap (flat_map (λ w. block w (in_window w xs))) answered_step
      ∙ by_test (is_few p.0 xs)
      (λ is. ap (λ b. flat_map (λ w. block w (in_window w xs)) (cond b (p.0 ∷ answered rest) [])) is
      ∙ ap (λ ys. block p.0 (in_window p.0 xs) ++ ys) (flat_over (λ w. block w (in_window w xs)) (λ w. block w (in_window w rest)) (λ n. p.0 < n) block_over (answered rest) (all_while (λ w. is_few w rest) (λ n. p.0 < n) (windows_of rest) following))
      ∙ ap (λ ys. block p.0 ys ++ blocks block rest) here
      ∙ sym (ap (λ b. cond b (block p.0 (map record_at (take (first_run xs) xs)) ++ blocks block rest) []) (sym few_here ∙ is)))
      (λ isnt. ap (λ b. flat_map (λ w. block w (in_window w xs)) (cond b (p.0 ∷ answered rest) [])) isnt
      ∙ sym (ap (λ b. cond b (block p.0 (map record_at (take (first_run xs) xs)) ++ blocks block rest) []) (sym few_here ∙ isnt)))
