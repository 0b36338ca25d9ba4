-- Lists whose items come several times each.
use Rattle.std.proofs.Common.{◌≡◌, ℕ, zero, suc, ◌≤◌, List, [], ◌∷◌, ◌++◌, All, map, filter, length, replicate, Bool, true, false, not, cond, refl, ap, sym, ◌∙◌, append-nil, append_assoc, arith}
use Rattle.std.specs.List.{AllByRecursion}
use Rattle.std.specs.Cmp.Lexicographic.{nat_list_eq_equiv}
use Rattle.std.proofs.lemmas.List.{length-map, map-append}
use Rattle.std.proofs.lemmas.List.Elements.{All-from_recursion, filter-append}
use Rattle.sn_base.specs.Bags.{SameBag}
use Rattle.sn_base.specs.Bags.SameBag.{following}
use Rattle.sn_base.specs.Groups.{Row, once, same_row}
use Rattle.sn_base.proofs.BagLemmas.{bag_before, bag_filter, bag_parted, bag_same, bag_swapped, bag_then}
use Rattle.sn_base.proofs.FoldedLemmas.{same_row_exact}
use Rattle.sn_base.proofs.Lists.{all_filter, all_map, all_weaker, by_test, filter_within, map_where}
use Rattle.sn_base.proofs.OnceLemmas.{once_filter}
use Rattle.sn_cost_seats.specs.Tallies.{tallied, times_in}
use Rattle.sn_cost_tally.specs.Weighed.{repeated}

-- ---- maps and pushes

pub map_again : {X Y : Type 0} (f : X → Y) (n : ℕ) (x : X) → map f (replicate n x) ≡ replicate n (f x)
map_again f zero x = refl
map_again f (suc n) x = ap (λ ys. f x ∷ ys) (map_again f n x)

pub repeated_map : {X Y : Type 0} (f : X → Y) (xs : List X) (ns : List ℕ) → map f (repeated xs ns) ≡ repeated (map f xs) ns
repeated_map f [] ns = refl
repeated_map f (x ∷ xs) [] = refl
repeated_map f (x ∷ xs) (n ∷ ns) =
    map-append f (replicate n x) (repeated xs ns) ∙ ap (λ ys. ys ++ map f (repeated xs ns)) (map_again f n x) ∙ ap (λ ys. replicate n (f x) ++ ys) (repeated_map f xs ns)

pub repeated_push : {X : Type 0} (xs : List X) (ns : List ℕ) (x : X) (n : ℕ) → length xs ≡ length ns → repeated (xs ++ x ∷ []) (ns ++ n ∷ []) ≡ repeated xs ns ++ replicate n x
repeated_push [] [] x n long = append-nil (replicate n x)
repeated_push [] (m ∷ ns) x n long = absurd cc
repeated_push (y ∷ xs) [] x n long = absurd cc
repeated_push (y ∷ xs) (m ∷ ns) x n long = ap (λ zs. replicate m y ++ zs) (repeated_push xs ns x n (omega (arith, long))) ∙ sym (append_assoc (replicate m y) (repeated xs ns) (replicate n x))

-- ---- filters

filter_again : {X : Type 0} (t : X → Bool) (n : ℕ) (x : X) → filter t (replicate n x) ≡ cond (t x) (replicate n x) []
filter_again t n x = by_test (t x) (λ is. kept is n ∙ sym (ap (λ b. cond b (replicate n x) []) is)) (λ isnt. dropped isnt n ∙ sym (ap (λ b. cond b (replicate n x) []) isnt))
  where
    kept : t x ≡ true → (n : ℕ) → filter t (replicate n x) ≡ replicate n x
    kept is zero = refl
    kept is (suc n) = ap (λ b. cond b (x ∷ filter t (replicate n x)) (filter t (replicate n x))) is ∙ ap (λ ys. x ∷ ys) (kept is n)

    dropped : t x ≡ false → (n : ℕ) → filter t (replicate n x) ≡ []
    dropped isnt zero = refl
    dropped isnt (suc n) = ap (λ b. cond b (x ∷ filter t (replicate n x)) (filter t (replicate n x))) isnt ∙ dropped isnt n

-- those that pass a test come as often as before
repeated_filter : {X : Type 0} (t : X → Bool) (f : X → ℕ) (xs : List X) → filter t (repeated xs (map f xs)) ≡ repeated (filter t xs) (map f (filter t xs))
repeated_filter t f [] = refl
repeated_filter {X = X} t f (x ∷ xs) =
    let rest : List X = filter t xs in
    filter-append t (replicate (f x) x) (repeated xs (map f xs)) ∙ ap (λ ys. ys ++ filter t (repeated xs (map f xs))) (filter_again t (f x) x) ∙ ap (λ ys. cond (t x) (replicate (f x) x) [] ++ ys) (repeated_filter t f xs)
    ∙ (elim (t x) as (λ b. cond b (replicate (f x) x) [] ++ repeated rest (map f rest) ≡ repeated (cond b (x ∷ rest) rest) (map f (cond b (x ∷ rest) rest))) [ true ↦ refl | false ↦ refl ])

-- rows that are the same as one are that one, several times
same_again : (key : Row) (rows : List Row) → replicate (times_in rows key) key ≡ filter (same_row key) rows
same_again key [] = refl
same_again key (row ∷ rows) =
    by_test (same_row key row)
    (λ is. ap (λ b. replicate (length (cond b (row ∷ filter (same_row key) rows) (filter (same_row key) rows))) key) is
    ∙ ap (λ ys. key ∷ ys) (same_again key rows) ∙ ap (λ r. r ∷ filter (same_row key) rows) (same_row_exact key row is)
    ∙ sym (ap (λ b. cond b (row ∷ filter (same_row key) rows) (filter (same_row key) rows)) is))
    (λ isnt. ap (λ b. replicate (length (cond b (row ∷ filter (same_row key) rows) (filter (same_row key) rows))) key) isnt ∙ same_again key rows
    ∙ sym (ap (λ b. cond b (row ∷ filter (same_row key) rows) (filter (same_row key) rows)) isnt))

-- ---- distinct rows as often as they come

-- a row more changes the times of no row but its own
times_apart : (row : Row) (rows : List Row) (key : Row) → not (same_row row key) ≡ true → times_in (row ∷ rows) key ≡ times_in rows key
times_apart row rows key other = by_test (same_row row key) (λ is. absurd (false_true (sym (ap not is) ∙ other))) (λ isnt. ap (λ b. length (cond b (row ∷ filter (same_row key) rows) (filter (same_row key) rows))) (nat_list_eq_equiv.symm key row ∙ isnt))
  where
    false_true : false ≡ true → ⊥
    false_true h = cc

times_first : (row : Row) (rows : List Row) → times_in (row ∷ rows) row ≡ suc (times_in rows row)
times_first row rows = ap (λ b. length (cond b (row ∷ filter (same_row row) rows) (filter (same_row row) rows))) (nat_list_eq_equiv.refl row)

-- the distinct rows, each as often as it comes, are the rows in another order
pub tallied_bag : (xs : List Row) → SameBag (repeated (once same_row xs) (tallied xs)) xs
tallied_bag [] = bag_same refl
tallied_bag (row ∷ rows) =
    let other : Row → Bool = λ key. not (same_row row key) in
    let keys : List Row = once same_row rows in
    let far : List Row = filter other keys in
    let again : List Row = filter (same_row row) rows in
    let times : List ℕ = map (times_in (row ∷ rows)) far in
    let first : replicate (times_in (row ∷ rows) row) row ≡ row ∷ again = ap (λ n. replicate n row) (times_first row rows) ∙ ap (λ ys. row ∷ ys) (same_again row rows) in
    let others : repeated far times ≡ filter other (repeated keys (tallied rows)) =
    ap (repeated far) (map_where (times_in (row ∷ rows)) (times_in rows) other (times_apart row rows) keys) ∙ sym (repeated_filter other (times_in rows) keys) in
    bag_then (bag_same (ap (λ ys. ys ++ repeated far times) first ∙ ap (λ ys. row ∷ (again ++ ys)) others))
    (following row (again ++ filter other (repeated keys (tallied rows))) rows
    (bag_then (bag_before again (filter other (repeated keys (tallied rows))) (filter other rows) (bag_filter other (repeated keys (tallied rows)) rows (tallied_bag rows)))
    (bag_then (bag_swapped again (filter other rows)) (bag_parted (same_row row) rows))))

-- each of them comes
times_some : (xs : List Row) → AllByRecursion (λ key. 1 ≤ times_in xs key) (once same_row xs)
times_some [] = tt
times_some (row ∷ rows) =
    let P : Row → Type 0 = λ key. 1 ≤ times_in (row ∷ rows) key in
    let first = times_first row rows in
    (omega (arith, first), all_filter P (λ key. not (same_row row key)) (once same_row rows) (all_weaker (λ key. 1 ≤ times_in rows key) P (no_less row rows) (once same_row rows) (times_some rows)))
  where
    no_less : (row : Row) (rows : List Row) (key : Row) → 1 ≤ times_in rows key → 1 ≤ times_in (row ∷ rows) key
    no_less row rows key some = elim (same_row key row) as (λ b. 1 ≤ length (cond b (row ∷ filter (same_row key) rows) (filter (same_row key) rows))) [ true ↦ omega arith | false ↦ some ]

tallied_some : (xs : List Row) → AllByRecursion (λ n. 1 ≤ n) (tallied xs)
tallied_some xs = all_map (λ n. 1 ≤ n) (times_in xs) (once same_row xs) (times_some xs)

pub tallied_weights : (xs : List Row) → All (λ n. 1 ≤ n) (tallied xs)
tallied_weights xs = All-from_recursion (λ n. 1 ≤ n) (tallied xs) (tallied_some xs)

-- a key that comes again changes nothing for the others
far_again : (key : Row) (n : ℕ) (rows : List Row) → filter (λ x. not (same_row key x)) (once same_row (replicate n key ++ rows)) ≡ filter (λ x. not (same_row key x)) (once same_row rows)
far_again key zero rows = refl
far_again key (suc n) rows =
    let other : Row → Bool = λ x. not (same_row key x) in
    let far : List Row = filter other (once same_row (replicate n key ++ rows)) in
    ap (λ b. cond (not b) (key ∷ filter other far) (filter other far)) (nat_list_eq_equiv.refl key)
    ∙ filter_within other other (λ x is. is) (once same_row (replicate n key ++ rows))
    ∙ far_again key n rows

once_repeated : (keys : List Row) (ns : List ℕ) → length ns ≡ length keys → AllByRecursion (λ n. 1 ≤ n) ns → once same_row (repeated keys ns) ≡ once same_row keys
once_repeated [] ns long some = refl
once_repeated (key ∷ keys) [] long some = absurd cc
once_repeated (key ∷ keys) (zero ∷ ns) long some = let none = some.0 in absurd (omega (arith, none))
once_repeated (key ∷ keys) (suc n ∷ ns) long some =
    ap (λ xs. key ∷ xs) (far_again key n (repeated keys ns) ∙ ap (filter (λ x. not (same_row key x))) (once_repeated keys ns (omega (arith, long)) some.1))

once_twice : (xs : List Row) → once same_row (once same_row xs) ≡ once same_row xs
once_twice [] = refl
once_twice (row ∷ rows) =
    let other : Row → Bool = λ x. not (same_row row x) in
    ap (λ xs. row ∷ xs)
    (ap (filter other) (once_filter nat_list_eq_equiv same_row_exact other (once same_row rows) ∙ ap (filter other) (once_twice rows))
    ∙ filter_within other other (λ x is. is) (once same_row rows))

-- they come in the order of their first places
pub tallied_once : (xs : List Row) → once same_row (repeated (once same_row xs) (tallied xs)) ≡ once same_row xs
tallied_once xs = once_repeated (once same_row xs) (tallied xs) (length-map (once same_row xs) (times_in xs)) (tallied_some xs) ∙ once_twice xs
