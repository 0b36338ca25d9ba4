-- Rows in which one column is changed.
use Rattle.std.proofs.Common.{◌≡◌, ℕ, zero, suc, List, [], ◌∷◌, map, filter, length, slice_index, Bool, true, false, not, ◌||◌, cond, nat_eq, refl, ap, sym, ◌∙◌, subst}
use Rattle.std.specs.List.{AllByRecursion, list_any}
use Rattle.std.proofs.lemmas.Bool.{false≢true}
use Rattle.sn_base.specs.Groups.{Row, once, same_row}
use Rattle.sn_base.proofs.FoldedLemmas.{same_row_exact}
use Rattle.sn_base.proofs.GroupLemmas.{same_self}
use Rattle.sn_base.proofs.Lists.{by_test, filter_map, nat_same, nat_self, or_left, or_right}
use Rattle.sn_base.proofs.OnceLemmas.{all_once}
use Rattle.sn_refine_laws.specs.Masking.{changed_at}
use Rattle.sn_refine_laws.proofs.Filtering.{filter_where, all_same}

pub read_changed : (m : ℕ → ℕ) → m 0 ≡ 0 → (row : Row) (p : ℕ) → slice_index (changed_at m row p) p ≡ m (slice_index row p)
read_changed m zeros [] p = sym zeros
read_changed m zeros (x ∷ xs) zero = refl
read_changed m zeros (x ∷ xs) (suc p) = read_changed m zeros xs p

pub read_other : (m : ℕ → ℕ) (row : Row) (p q : ℕ) → (q ≡ p → ⊥) → slice_index (changed_at m row p) q ≡ slice_index row q
read_other m [] p q apart = refl
read_other m (x ∷ xs) zero zero apart = absurd (apart refl)
read_other m (x ∷ xs) zero (suc q) apart = refl
read_other m (x ∷ xs) (suc p) zero apart = refl
read_other m (x ∷ xs) (suc p) (suc q) apart = read_other m xs p q (λ e. apart (ap suc e))

-- a row whose number at the place is known can be had back
pub changed_back : (m : ℕ → ℕ) (a : ℕ) (row : Row) (p : ℕ) → slice_index row p ≡ a → changed_at (λ n. a) (changed_at m row p) p ≡ row
changed_back m a [] p e = refl
changed_back m a (x ∷ xs) zero e = ap (λ (y : ℕ). y ∷ xs) (sym e)
changed_back m a (x ∷ xs) (suc p) e = ap (λ (ys : Row). x ∷ ys) (changed_back m a xs p e)

pub changed_long : (m : ℕ → ℕ) (row : Row) (p : ℕ) → length (changed_at m row p) ≡ length row
changed_long m [] p = refl
changed_long m (x ∷ xs) zero = refl
changed_long m (x ∷ xs) (suc p) = ap suc (changed_long m xs p)

-- where a row of the right number is the same as another, so are the changed ones, and the other way
pub same_changed : (m : ℕ → ℕ) (a : ℕ) (x y : Row) (p : ℕ) → slice_index x p ≡ a → slice_index y p ≡ a → same_row (changed_at m x p) (changed_at m y p) ≡ same_row x y
same_changed m a x y p ex ey =
    by_test (same_row x y)
    (λ is. ap (λ (z : Row). same_row (changed_at m x p) (changed_at m z p)) (sym (same_row_exact x y is)) ∙ same_self (changed_at m x p) ∙ sym is)
    (λ isnt. by_test (same_row (changed_at m x p) (changed_at m y p))
    (λ was. let same : x ≡ y = sym (changed_back m a x p ex) ∙ ap (λ (z : Row). changed_at (λ n. a) z p) (same_row_exact (changed_at m x p) (changed_at m y p) was) ∙ changed_back m a y p ey in
    absurd (false≢true (sym isnt ∙ ap (same_row x) (sym same) ∙ same_self x)))
    (λ wasnt. wasnt ∙ sym isnt))

-- each that passes passes
pub all_passing : {A : Type 0} (t : A → Bool) (xs : List A) → AllByRecursion (λ x. t x ≡ true) (filter t xs)
all_passing t [] = tt
all_passing t (x ∷ xs) =
    by_test (t x)
    (λ is. subst (λ (b : Bool). AllByRecursion (λ y. t y ≡ true) (cond b (x ∷ filter t xs) (filter t xs))) (sym is) (is, all_passing t xs))
    (λ isnt. subst (λ (b : Bool). AllByRecursion (λ y. t y ≡ true) (cond b (x ∷ filter t xs) (filter t xs))) (sym isnt) (all_passing t xs))

-- the rows of a number have it
pub all_numbered : (a p : ℕ) (rows : List Row) → AllByRecursion (λ row. slice_index row p ≡ a) (filter (λ row. nat_eq a (slice_index row p)) rows)
all_numbered a p rows =
    all_same (λ (row : Row). nat_eq a (slice_index row p) ≡ true) (λ row. slice_index row p ≡ a) (λ row is. sym (nat_same a (slice_index row p) is)) _ (all_passing (λ (row : Row). nat_eq a (slice_index row p)) rows)

-- of rows with one number, those that occur are so when they are changed
pub once_changed : (m : ℕ → ℕ) (a p : ℕ) (rows : List Row) → AllByRecursion (λ row. slice_index row p ≡ a) rows →
    once same_row (map (λ row. changed_at m row p) rows) ≡ map (λ row. changed_at m row p) (once same_row rows)
once_changed m a p [] h = refl
once_changed m a p (x ∷ xs) h =
    let f : Row → Row = λ row. changed_at m row p in
    ap (λ ys. f x ∷ filter (λ y. not (same_row (f x) y)) ys) (once_changed m a p xs h.1)
    ∙ ap (λ ys. f x ∷ ys) (sym (filter_map f (λ y. not (same_row (f x) y)) (once same_row xs))
    ∙ ap (map f) (filter_where (λ y. not (same_row (f x) (f y))) (λ y. not (same_row x y)) (once same_row xs)
    (all_same (λ (y : Row). slice_index y p ≡ a) (λ y. not (same_row (f x) (f y)) ≡ not (same_row x y)) (λ y e. ap not (same_changed m a x y p h.0 e)) (once same_row xs) (all_once same_row (λ (y : Row). slice_index y p ≡ a) xs h.1))))

-- a key of the right number that occurs, occurs changed among the changed ones
pub occurs_changed : (m : ℕ → ℕ) (a p : ℕ) (k : Row) (ks : List Row) → slice_index k p ≡ a → list_any (same_row k) ks ≡ true →
    list_any (same_row (changed_at m k p)) (map (λ x. changed_at m x p) (filter (λ x. nat_eq a (slice_index x p)) ks)) ≡ true
occurs_changed m a p k [] e is = absurd (false≢true is)
occurs_changed m a p k (x ∷ xs) e is =
    let f : Row → Row = λ row. changed_at m row p in
    let t : Row → Bool = λ row. nat_eq a (slice_index row p) in
    let rest : List Row = filter t xs in
    let goal : Bool → Type 0 = λ b. list_any (same_row (f k)) (map f (cond b (x ∷ rest) rest)) ≡ true in
    by_test (same_row k x)
    (λ here. let same : k ≡ x = same_row_exact k x here in
    let passes : t x ≡ true = ap (nat_eq a) (ap (λ (z : Row). slice_index z p) (sym same) ∙ e) ∙ nat_self a in
    subst goal (sym passes) (or_left (same_row (f k) (f x)) (list_any (same_row (f k)) (map f rest)) (ap (λ (z : Row). same_row (f k) (f z)) (sym same) ∙ same_self (f k))))
    (λ isnt. let later = occurs_changed m a p k xs e (sym (ap (λ b. b || list_any (same_row k) xs) isnt) ∙ is) in
    by_test (t x)
    (λ was. subst goal (sym was) (or_right (same_row (f k) (f x)) (list_any (same_row (f k)) (map f rest)) later))
    (λ wasnt. subst goal (sym wasnt) later))
