-- Distinct rows stand for all rows.
use Rattle.std.proofs.Common.{◌≡◌, ℕ, suc, ◌+◌, List, [], ◌∷◌, map, filter, fold, length, Bool, true, false, not, cond, refl, ap, sym, subst, ◌∙◌, arith, zero-add}
use Rattle.std.specs.List.{AllByRecursion, list_any}
use Rattle.std.specs.Cmp.Lexicographic.{nat_list_eq_equiv}
use Rattle.sn_base.specs.Groups.{Apart, Row, once, same_row}
use Rattle.sn_base.proofs.Lists.{by_test, filter_none}
use Rattle.sn_base.proofs.FoldedLemmas.{same_row_exact}
use Rattle.sn_base.proofs.OnceLemmas.{any_once, once_apart, once_filter}
use Rattle.sn_chain.specs.Chain.{has_home, places_of}
use Rattle.sn_chain.specs.Residence.{seated}
use Rattle.sn_cost_seats.specs.Tallies.{marked, sum_unmarked, tallied, times_in}

-- ---- keys that are apart occur once

filter_far : (k : Row) (ks : List Row) → AllByRecursion (λ x. same_row k x ≡ false) ks → filter (λ x. not (same_row k x)) ks ≡ ks
filter_far k [] h = refl
filter_far k (x ∷ ks) h = ap (λ b. cond (not b) (x ∷ filter (λ y. not (same_row k y)) ks) (filter (λ y. not (same_row k y)) ks)) h.0 ∙ ap (λ ys. x ∷ ys) (filter_far k ks h.1)

apart_once : (ks : List Row) → Apart same_row ks → once same_row ks ≡ ks
apart_once [] h = refl
apart_once (k ∷ ks) h = ap (λ xs. k ∷ filter (λ x. not (same_row k x)) xs) (apart_once ks h.1) ∙ ap (λ xs. k ∷ xs) (filter_far k ks h.0)

once_twice : (rows : List Row) → once same_row (once same_row rows) ≡ once same_row rows
once_twice rows = apart_once (once same_row rows) (once_apart same_row rows)

-- keys reside among the distinct keys as among all
pub same_homes : (depth slots : ℕ) (rows : List Row) → has_home depth slots (once same_row rows) ≡ has_home depth slots rows
same_homes depth slots rows = ap {B = Row → Bool} (λ (ks : List Row) (key : Row). list_any (same_row key) (map (λ (h : ℕ × Row). h.1) (fold (seated same_row (places_of depth slots)) [] ks))) (once_twice rows)

-- ---- marks

pub marked_filter : (p : Row → Bool) (ks : List Row) → marked (map p ks) ks ≡ filter p ks
marked_filter p [] = refl
marked_filter p (k ∷ ks) = ap (λ xs. cond (p k) (k ∷ xs) xs) (marked_filter p ks)

abbrev pub weight : (Row → Bool) → (Row → ℕ) → Row → ℕ
weight p f k = cond (p k) 0 (f k)

abbrev pub weights : (Row → Bool) → (Row → ℕ) → List Row → ℕ
weights p f [] = 0
weights p f (k ∷ ks) = weight p f k + weights p f ks

sum_weights : (p : Row → Bool) (f : Row → ℕ) (ks : List Row) → sum_unmarked (map p ks) (map f ks) ≡ weights p f ks
sum_weights p f [] = refl
sum_weights p f (k ∷ ks) = ap (λ n. weight p f k + n) (sum_weights p f ks)

-- weights that agree on the keys
weights_agree : (p : Row → Bool) (f g : Row → ℕ) (ks : List Row) → AllByRecursion (λ k. f k ≡ g k) ks → weights p f ks ≡ weights p g ks
weights_agree p f g [] h = refl
weights_agree p f g (k ∷ ks) h = ap (λ n. cond (p k) 0 n + weights p f ks) h.0 ∙ ap (λ n. weight p g k + n) (weights_agree p f g ks h.1)

-- the weight of one key apart from those of the others
weights_parted : (p : Row → Bool) (f : Row → ℕ) (r : Row) (ks : List Row) → Apart same_row ks → weights p f ks ≡ cond (list_any (same_row r) ks) (weight p f r) 0 + weights p f (filter (λ x. not (same_row r x)) ks)
weights_parted p f r [] h = refl
weights_parted p f r (k ∷ ks) h =
    by_test (same_row r k)
    (λ is.
    let same : r ≡ k = same_row_exact r k is in
    let far : filter (λ x. not (same_row r x)) ks ≡ ks = subst (λ x. filter (λ y. not (same_row x y)) ks ≡ ks) (sym same) (filter_far k ks h.0) in
    ap (λ x. weight p f x + weights p f ks) (sym same)
    ∙ sym (ap (λ b. cond (or_of b (list_any (same_row r) ks)) (weight p f r) 0 + weights p f (cond (not b) (k ∷ filter (λ x. not (same_row r x)) ks) (filter (λ x. not (same_row r x)) ks))) is
    ∙ ap (λ xs. weight p f r + weights p f xs) far))
    (λ isnt.
    let rest = weights_parted p f r ks h.1 in
    let none : ℕ = cond (list_any (same_row r) ks) (weight p f r) 0 in
    let turned : weight p f k + (none + weights p f (filter (λ x. not (same_row r x)) ks)) ≡ none + (weight p f k + weights p f (filter (λ x. not (same_row r x)) ks)) = omega arith in
    ap (λ n. weight p f k + n) rest ∙ turned
    ∙ sym (ap (λ b. cond (or_of b (list_any (same_row r) ks)) (weight p f r) 0 + weights p f (cond (not b) (k ∷ filter (λ x. not (same_row r x)) ks) (filter (λ x. not (same_row r x)) ks))) isnt))
  where
    or_of : Bool → Bool → Bool
    or_of true b = true
    or_of false b = b

-- ---- how often rows come

not_among : (r : Row) (rows : List Row) → list_any (same_row r) rows ≡ false → times_in rows r ≡ 0
not_among r rows e = ap length (filter_none (same_row r) rows e)

times_more : (r : Row) (rows ks : List Row) → AllByRecursion (λ k. times_in rows k ≡ times_in (r ∷ rows) k) (filter (λ x. not (same_row r x)) ks)
times_more r rows [] = tt
times_more r rows (k ∷ ks) =
    by_test (same_row r k)
    (λ is. subst (λ b. AllByRecursion (λ x. times_in rows x ≡ times_in (r ∷ rows) x) (cond (not b) (k ∷ filter (λ x. not (same_row r x)) ks) (filter (λ x. not (same_row r x)) ks))) (sym is) (times_more r rows ks))
    (λ isnt. subst (λ b. AllByRecursion (λ x. times_in rows x ≡ times_in (r ∷ rows) x) (cond (not b) (k ∷ filter (λ x. not (same_row r x)) ks) (filter (λ x. not (same_row r x)) ks))) (sym isnt)
    (sym (ap (λ b. length (cond b (r ∷ filter (same_row k) rows) (filter (same_row k) rows))) (nat_list_eq_equiv.symm k r ∙ isnt)), times_more r rows ks))

times_one : (r : Row) (rows : List Row) → times_in (r ∷ rows) r ≡ suc (times_in rows r)
times_one r rows = ap (λ b. length (cond b (r ∷ filter (same_row r) rows) (filter (same_row r) rows))) (nat_list_eq_equiv.refl r)

counted_next : (b : Bool) (row : Row) (rows : List Row) → length (cond (not b) (row ∷ rows) rows) ≡ cond b 0 1 + length rows
counted_next true row rows = sym (zero-add (length rows))
counted_next false row rows = let e : suc (length rows) ≡ 1 + length rows = omega arith in e

one_more : (b : Bool) (n : ℕ) → cond b 0 (suc n) ≡ cond b 0 1 + cond b 0 n
one_more true n = refl
one_more false n = let e : suc n ≡ 1 + n = omega arith in e

once_here : (b c : Bool) (n : ℕ) → (c ≡ false → n ≡ 0) → cond c (cond b 0 n) 0 ≡ cond b 0 n
once_here b true n h = refl
once_here true false n h = refl
once_here false false n h = sym (h refl)

-- each distinct row counts as often as it comes
pub weighted : (p : Row → Bool) (rows : List Row) → weights p (times_in rows) (once same_row rows) ≡ length (filter (λ row. not (p row)) rows)
weighted p [] = refl
weighted p (r ∷ rows) =
    let ks = once same_row rows in
    let far = filter (λ x. not (same_row r x)) ks in
    let rest : weights p (times_in rows) ks ≡ length (filter (λ row. not (p row)) rows) = weighted p rows in
    let parts = weights_parted p (times_in rows) r ks (once_apart same_row rows) in
    let here : cond (list_any (same_row r) ks) (weight p (times_in rows) r) 0 ≡ weight p (times_in rows) r =
    once_here (p r) (list_any (same_row r) ks) (times_in rows r) (λ e. not_among r rows (sym (any_once nat_list_eq_equiv same_row_exact r rows) ∙ e)) in
    let first : weight p (times_in (r ∷ rows)) r ≡ cond (p r) 0 1 + weight p (times_in rows) r = ap (cond (p r) 0) (times_one r rows) ∙ one_more (p r) (times_in rows r) in
    let others : weights p (times_in rows) far ≡ weights p (times_in (r ∷ rows)) far = weights_agree p (times_in rows) (times_in (r ∷ rows)) far (times_more r rows ks) in
    let all : length (filter (λ row. not (p row)) (r ∷ rows)) ≡ cond (p r) 0 1 + length (filter (λ row. not (p row)) rows) = counted_next (p r) r (filter (λ row. not (p row)) rows) in
    omega (arith, rest, parts, here, first, others, all)

-- ---- the two laws

pub overflow_counted : (depth slots : ℕ) (rows : List Row) →
    sum_unmarked (map (has_home depth slots (once same_row rows)) (once same_row rows)) (tallied rows) ≡ length (filter (λ row. not (has_home depth slots rows row)) rows)
overflow_counted depth slots rows =
    let keys = once same_row rows in
    sum_weights (has_home depth slots keys) (times_in rows) keys
    ∙ ap (λ (t : Row → Bool). weights t (times_in rows) keys) (same_homes depth slots rows)
    ∙ weighted (has_home depth slots rows) rows

pub flow_kept : (depth slots : ℕ) (rows : List Row) → marked (map (has_home depth slots (once same_row rows)) (once same_row rows)) (once same_row rows) ≡ once same_row (filter (λ row. has_home depth slots rows row) rows)
flow_kept depth slots rows =
    let keys = once same_row rows in
    marked_filter (has_home depth slots keys) keys
    ∙ ap (λ (t : Row → Bool). filter t keys) (same_homes depth slots rows)
    ∙ sym (once_filter nat_list_eq_equiv same_row_exact (has_home depth slots rows) rows)
