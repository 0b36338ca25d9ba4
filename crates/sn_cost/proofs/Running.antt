-- Runs of equal numbers are the windows.
use Rattle.std.proofs.Common.{◌≡◌, ℕ, zero, suc, ◌+◌, ◌≤◌, ◌<◌, List, [], ◌∷◌, Bool, cond, take, drop, length, length-append, ◌++◌, map, slice_index, get_or, refl, ap, sym, ◌∙◌, arith, filter, subst, not, Option, None, Some}
use Rattle.std.specs.Prelude.{◌==◌, if◌then◌else◌, replicate}
use Rattle.std.specs.List.{AllByRecursion}
use Rattle.std.proofs.Math.Seq.{drop-cons}
use Rattle.std.proofs.lemmas.Bool.{eq-eqb, ne_eqb}
use Rattle.std.proofs.lemmas.List.{length-replicate}
use Rattle.sn_base.proofs.Lists.{all_filter, all_weaker, by_test}
use Rattle.sn_windows.specs.Rising.{AreRising, IsAbove, Window}
use Rattle.sn_windows.specs.Windows.{in_window, record_at, run_of, windows_of}
use Rattle.sn_windows.proofs.RunLemmas as runs
use Rattle.sn_cost.specs.Entries.{records, trained, windows_in}
use Rattle.sn_cost.specs.Training.{NeverFall}
use Rattle.sn_cost_training.specs.declared.training.TrainingWindow.{TrainingWindow}
use Rattle.sn_cost_training.specs.Windows.{IsApart, numbers_in, tuples_in}

-- ---- counting equal numbers

-- how many of the first are this number
abbrev pub equal_to : ℕ → List ℕ → ℕ
equal_to w [] = 0
equal_to w (n ∷ ns) = if n == w then suc (equal_to w ns) else 0

-- how many of the first are the first one
abbrev pub equal_ahead : List ℕ → ℕ
equal_ahead numbers = equal_to (slice_index numbers 0) numbers

pub some_ahead : (ns : List ℕ) → 0 < length ns → 0 < equal_ahead ns
some_ahead [] lt = absurd (omega (arith, lt))
some_ahead (n ∷ ns) lt = let e = ap (λ b. cond b (suc (equal_to n ns)) 0) (eq-eqb n n refl) in omega (arith, e)

-- ---- the first window

numbers_of : (ns : List ℕ) (ts : List (List ℕ)) (w : ℕ) → length ns ≡ length ts → run_of w (records ns ts) ≡ equal_to w ns
numbers_of [] ts w e = refl
numbers_of (n ∷ ns) [] w e = absurd (omega (arith, e))
numbers_of (n ∷ ns) (t ∷ ts) w e = ap (λ m. cond (n == w) (suc m) 0) (numbers_of ns ts w (omega (arith, e)))

records_dropped : (k : ℕ) (ns : List ℕ) (ts : List (List ℕ)) → drop k (records ns ts) ≡ records (drop k ns) (drop k ts)
records_dropped zero ns ts = refl
records_dropped (suc k) [] ts = refl
records_dropped (suc k) (n ∷ ns) [] = sym (no_records (drop k ns))
  where
    no_records : (ns : List ℕ) → records ns [] ≡ []
    no_records [] = refl
    no_records (n ∷ ns) = refl
records_dropped (suc k) (n ∷ ns) (t ∷ ts) = records_dropped k ns ts

tuples_taken : (k : ℕ) (ns : List ℕ) (ts : List (List ℕ)) → length ns ≡ length ts → map record_at (take k (records ns ts)) ≡ take k ts
tuples_taken zero ns ts e = refl
tuples_taken (suc k) [] [] e = refl
tuples_taken (suc k) [] (t ∷ ts) e = absurd (omega (arith, e))
tuples_taken (suc k) (n ∷ ns) [] e = absurd (omega (arith, e))
tuples_taken (suc k) (n ∷ ns) (t ∷ ts) e = ap (λ xs. t ∷ xs) (tuples_taken k ns ts (omega (arith, e)))

records_least : (w : ℕ) (ns : List ℕ) (ts : List (List ℕ)) → AllByRecursion (λ m. w ≤ m) ns → runs.AtLeast w (records ns ts)
records_least w [] ts h = tt
records_least w (n ∷ ns) [] h = tt
records_least w (n ∷ ns) (t ∷ ts) h = (h.0, records_least w ns ts h.1)

records_rise : (ns : List ℕ) (ts : List (List ℕ)) → NeverFall ns → runs.Rises (records ns ts)
records_rise [] ts h = tt
records_rise (n ∷ ns) [] h = tt
records_rise (n ∷ ns) (t ∷ ts) h = (records_least n ns ts h.0, records_rise ns ts h.1)

pub later_fall : (k : ℕ) (ns : List ℕ) → NeverFall ns → NeverFall (drop k ns)
later_fall zero ns h = h
later_fall (suc k) [] h = tt
later_fall (suc k) (n ∷ ns) h = later_fall k ns h.1

map_above : {X : Type 0} (w : ℕ) (f g : ℕ → X) → ((v : ℕ) → w < v → f v ≡ g v) → (vs : List ℕ) → AllByRecursion (λ v. w < v) vs → map f vs ≡ map g vs
map_above w f g e [] h = refl
map_above w f g e (v ∷ vs) h = ap (λ x. x ∷ map f vs) (e v h.0) ∙ ap (λ xs. g v ∷ xs) (map_above w f g e vs h.1)

-- the first window is that of the first run, and the others are those after it
pub windows_step : (n : ℕ) (ns : List ℕ) (t : List ℕ) (ts : List (List ℕ)) (k : ℕ) → length ns ≡ length ts → NeverFall (n ∷ ns) → k ≡ equal_ahead (n ∷ ns)
    → windows_in (records (n ∷ ns) (t ∷ ts)) ≡ (n, take k (t ∷ ts)) ∷ windows_in (records (drop k (n ∷ ns)) (drop k (t ∷ ts)))
windows_step n ns t ts k e never is =
    let ps : List (ℕ × List ℕ) = records ns ts in
    let xs : List (ℕ × List ℕ) = records (n ∷ ns) (t ∷ ts) in
    let rises = records_rise (n ∷ ns) (t ∷ ts) never in
    let run : k ≡ suc (run_of n ps) = is ∙ ap (λ b. cond b (suc (equal_to n ns)) 0) (eq-eqb n n refl) ∙ ap suc (sym (numbers_of ns ts n e)) in
    let rest : List (ℕ × List ℕ) = drop (run_of n ps) ps in
    let same : rest ≡ records (drop k (n ∷ ns)) (drop k (t ∷ ts)) = sym (ap (λ m. drop m xs) run) ∙ records_dropped k (n ∷ ns) (t ∷ ts) in
    let here : in_window n xs ≡ take k (t ∷ ts) =
    ap (λ b. map record_at (cond b ((n, t) ∷ filter (λ q. q.0 == n) ps) (filter (λ q. q.0 == n) ps))) (eq-eqb n n refl)
    ∙ ap (λ ys. t ∷ map record_at ys) (runs.run_is n ps rises.0 rises.1)
    ∙ tuples_taken (suc (run_of n ps)) (n ∷ ns) (t ∷ ts) (ap suc e) ∙ ap (λ m. take m (t ∷ ts)) (sym run) in
    let later : (v : ℕ) → n < v → in_window v xs ≡ in_window v rest =
    λ v lt. ap (λ b. map record_at (cond b ((n, t) ∷ filter (λ q. q.0 == v) ps) (filter (λ q. q.0 == v) ps))) (ne_eqb n v (λ d. omega (arith, lt, d))) ∙ ap (map record_at) (runs.run_isnt n v lt ps) in
    ap (λ vs. (n, in_window n xs) ∷ map (λ w. (w, in_window w xs)) vs) (runs.once_run n ps rises.0 rises.1)
    ∙ ap (λ ts. (n, ts) ∷ map (λ w. (w, in_window w xs)) (windows_of rest)) here
    ∙ ap (λ gs. (n, take k (t ∷ ts)) ∷ gs) (map_above n (λ w. (w, in_window w xs)) (λ w. (w, in_window w rest)) (λ v lt. ap (λ ys. (v, ys)) (later v lt)) (windows_of rest) (runs.once_above n rest (runs.run_above n ps rises.0 rises.1)))
    ∙ ap (λ ys. (n, take k (t ∷ ts)) ∷ windows_in ys) same

-- ---- windows rise

abbrev Strict : List ℕ → Type 0
Strict [] = Unit {0}
Strict (v ∷ vs) = AllByRecursion (λ n. v < n) vs × Strict vs

strict_filter : (t : ℕ → Bool) (vs : List ℕ) → Strict vs → Strict (filter t vs)
strict_filter t [] h = tt
strict_filter t (v ∷ vs) h =
    by_test (t v)
    (λ is. subst (λ b. Strict (cond b (v ∷ filter t vs) (filter t vs))) (sym is) (all_filter (λ n. v < n) t vs h.0, strict_filter t vs h.1))
    (λ isnt. subst (λ b. Strict (cond b (v ∷ filter t vs) (filter t vs))) (sym isnt) (strict_filter t vs h.1))

strict_windows : (ps : List (ℕ × List ℕ)) → runs.Rises ps → Strict (windows_of ps)
strict_windows [] r = tt
strict_windows (p ∷ ps) r =
    let rest : List (ℕ × List ℕ) = drop (run_of p.0 ps) ps in
    (subst (AllByRecursion (λ n. p.0 < n)) (sym (runs.once_run p.0 ps r.0 r.1)) (runs.once_above p.0 rest (runs.run_above p.0 ps r.0 r.1)), strict_filter (λ m. not (p.0 == m)) (windows_of ps) (strict_windows ps r.1))

given_rises : (f : ℕ → List (List ℕ)) (last : Option ℕ) (vs : List ℕ) → AllByRecursion (IsAbove last) vs → Strict vs → AreRising last (map (λ w. (w, f w)) vs)
given_rises f last [] a h = tt
given_rises f last (v ∷ vs) a h = (a.0, given_rises f (Some v) vs h.0 h.1)

all_above_none : (vs : List ℕ) → AllByRecursion (IsAbove None) vs
all_above_none [] = tt
all_above_none (v ∷ vs) = (tt, all_above_none vs)

pub windows_rise : (ns : List ℕ) (ts : List (List ℕ)) → NeverFall ns → AreRising None (windows_in (records ns ts))
windows_rise ns ts never =
    let xs : List (ℕ × List ℕ) = records ns ts in
    given_rises (λ w. in_window w xs) None (windows_of xs) (all_above_none (windows_of xs)) (strict_windows xs (records_rise ns ts never))

-- ---- windows with their tuples

-- a window's number and its tuples
abbrev pub window_in : TrainingWindow → Window
window_in w = (w.number, w.tuples)

abbrev pub given_in : List TrainingWindow → List Window
given_in windows = map window_in windows

pub as_many : (ws : List TrainingWindow) → length (numbers_in ws) ≡ length (tuples_in ws)
as_many [] = refl
as_many (w ∷ ws) =
    let here = length-append (replicate (length w.tuples) w.number) (numbers_in ws) in
    let tuples = length-append w.tuples (tuples_in ws) in
    let copies = length-replicate (length w.tuples) w.number in
    let rest = as_many ws in
    omega (arith, here, tuples, copies, rest)

all_copies : (P : ℕ → Type 0) (k n : ℕ) (ns : List ℕ) → P n → AllByRecursion P ns → AllByRecursion P (replicate k n ++ ns)
all_copies P zero n ns one all = all
all_copies P (suc k) n ns one all = (one, all_copies P k n ns one all)

numbers_above : (n : ℕ) (ws : List TrainingWindow) → AllByRecursion (λ (v : TrainingWindow). n < v.number) ws → AllByRecursion (λ m. n < m) (numbers_in ws)
numbers_above n [] h = tt
numbers_above n (w ∷ ws) h = all_copies (λ m. n < m) (length w.tuples) w.number (numbers_in ws) h.0 (numbers_above n ws h.1)

copies_rise : (k n : ℕ) (ns : List ℕ) → AllByRecursion (λ m. n < m) ns → NeverFall ns → NeverFall (replicate k n ++ ns)
copies_rise zero n ns above h = h
copies_rise (suc k) n ns above h =
    (all_copies (λ m. n ≤ m) k n ns (omega arith) (all_weaker (λ m. n < m) (λ m. n ≤ m) (λ m lt. omega (arith, lt)) ns above), copies_rise k n ns above h)

pub never_fall : (ws : List TrainingWindow) → IsApart ws → NeverFall (numbers_in ws)
never_fall [] h = tt
never_fall (w ∷ ws) h = copies_rise (length w.tuples) w.number (numbers_in ws) (numbers_above w.number ws h.1.0) (never_fall ws h.1.1)

none_equal : (n : ℕ) (ns : List ℕ) → AllByRecursion (λ m. n < m) ns → equal_to n ns ≡ 0
none_equal n [] h = refl
none_equal n (m ∷ ns) h = ap (λ b. cond b (suc (equal_to n ns)) 0) (ne_eqb m n (λ e. let lt : n < m = h.0 in omega (arith, lt, e)))

copies_equal : (k n : ℕ) (ns : List ℕ) → AllByRecursion (λ m. n < m) ns → equal_to n (replicate k n ++ ns) ≡ k
copies_equal zero n ns h = none_equal n ns h
copies_equal (suc k) n ns h = ap (λ b. cond b (suc (equal_to n (replicate k n ++ ns))) 0) (eq-eqb n n refl) ∙ ap suc (copies_equal k n ns h)

copies_dropped : (k n : ℕ) (ns : List ℕ) → drop k (replicate k n ++ ns) ≡ ns
copies_dropped zero n ns = refl
copies_dropped (suc k) n ns = copies_dropped k n ns

own_dropped : (own ts : List (List ℕ)) → drop (length own) (own ++ ts) ≡ ts
own_dropped [] ts = refl
own_dropped (t ∷ own) ts = own_dropped own ts

own_taken : (own ts : List (List ℕ)) → take (length own) (own ++ ts) ≡ own
own_taken [] ts = refl
own_taken (t ∷ own) ts = ap (λ xs. t ∷ xs) (own_taken own ts)

-- the first window, and those after it
one_window : (n : ℕ) (own : List (List ℕ)) (ns : List ℕ) (ts : List (List ℕ)) → 0 < length own → length ns ≡ length ts → AllByRecursion (λ m. n < m) ns → NeverFall ns
    → windows_in (records (replicate (length own) n ++ ns) (own ++ ts)) ≡ (n, own) ∷ windows_in (records ns ts)
one_window n [] ns ts some e above never = absurd (omega (arith, some))
one_window n (t ∷ own) ns ts some e above never =
    let copies : List ℕ = replicate (length own) n ++ ns in
    let long : length copies ≡ length (own ++ ts) =
    let a = length-append (replicate (length own) n) ns in let b = length-append own ts in let c = length-replicate (length own) n in omega (arith, a, b, c, e) in
    windows_step n copies t (own ++ ts) (suc (length own)) long (copies_rise (suc (length own)) n ns above never) (sym (copies_equal (suc (length own)) n ns above))
    ∙ ap (λ xs. (n, xs) ∷ windows_in (records (drop (length own) copies) (drop (length own) (own ++ ts)))) (own_taken (t ∷ own) ts)
    ∙ ap (λ xs. (n, t ∷ own) ∷ windows_in (records xs (drop (length own) (own ++ ts)))) (copies_dropped (length own) n ns)
    ∙ ap (λ xs. (n, t ∷ own) ∷ windows_in (records ns xs)) (own_dropped own ts)

-- windows that are apart are those of their numbered tuples
pub trained_is : (ws : List TrainingWindow) → IsApart ws → trained (numbers_in ws) (tuples_in ws) ≡ given_in ws
trained_is [] h = refl
trained_is (w ∷ ws) h =
    one_window w.number w.tuples (numbers_in ws) (tuples_in ws) h.0 (as_many ws) (numbers_above w.number ws h.1.0) (never_fall ws h.1.1) ∙ ap (λ xs. window_in w ∷ xs) (trained_is ws h.1.1)

given_above : (last : ℕ) (ws : List TrainingWindow) → AllByRecursion (λ (v : TrainingWindow). last < v.number) ws → IsApart ws → AreRising (Some last) (given_in ws)
given_above last [] above h = tt
given_above last (w ∷ ws) above h = (above.0, given_above w.number ws h.1.0 h.1.1)

-- their numbers rise
pub given_rise : (ws : List TrainingWindow) → IsApart ws → AreRising None (given_in ws)
given_rise [] h = tt
given_rise (w ∷ ws) h = (tt, given_above w.number ws h.1.0 h.1.1)

-- the windows from a place on
pub window_at : (ws : List TrainingWindow) (i : ℕ) (w d : TrainingWindow) → i < length ws → w ≡ get_or ws i d → drop i ws ≡ w ∷ drop (i + 1) ws
window_at ws i w d some is = let next : suc i ≡ i + 1 = omega arith in drop-cons ws i d some ∙ ap (λ (v : TrainingWindow). v ∷ drop (suc i) ws) (sym is) ∙ ap (λ n. w ∷ drop n ws) next
