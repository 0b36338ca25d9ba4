-- Each path of levels has one number.
use Rattle.std.proofs.Common.{◌≡◌, ℕ, suc, ◌+◌, ◌-◌, ◌*◌, ◌^◌, ◌<◌, ◌≤◌, List, [], ◌∷◌, length, Bool, true, false, ◌||◌, Option, Some, None, refl, ap, sym, ◌∙◌, subst, arith, inl, inr}
use Rattle.std.specs.Prelude.{◌⊎◌, ◌/◌, ◌%◌, ◌==◌, nat_eq, if◌then◌else◌}
use Rattle.std.specs.List.{AllByRecursion}
use Rattle.std.proofs.Math.Nat.{eq-or-lt_of_le, pow-suc}
use Rattle.std.proofs.lemmas.Bool.Decides.{nat_tests}
use Rattle.sn_plan_fit.specs.Paths.{is_among, last_from}
use Rattle.sn_base.specs.Rising.{IsRising}
use Rattle.sn_plan_fit.specs.Fits.{IsPath}
use Rattle.sn_plan_choices.specs.Options.{path_of}
use Rattle.sn_plan_lists.specs.Numbers.{path_number}
use Rattle.sn_base.proofs.Lists.{all_two, or_true, nat_self, nat_same, all_weaker as all_each}
use Rattle.sn_base.proofs.Tests.{zero_plus, nat_above, even, odd, half_even, half_odd, nat_below}

or_parts : (a b : Bool) → (a || b) ≡ true → (a ≡ true) ⊎ (b ≡ true)
or_parts true b e = inl refl
or_parts false b e = inr e

-- ---- which numbers are among others

-- a number below all isn't among them
pub not_among : (l : ℕ) (ls : List ℕ) → AllByRecursion (λ k. l < k) ls → is_among ls l ≡ false
not_among l [] h = refl
not_among l (k ∷ ls) h = ap (λ b. b || is_among ls l) (nat_below l k h.0) ∙ not_among l ls h.1

pub among_head : (l : ℕ) (ls : List ℕ) → is_among (l ∷ ls) l ≡ true
among_head l ls = ap (λ b. b || is_among ls l) (nat_self l)

among_more : (l x : ℕ) (ls : List ℕ) → is_among ls x ≡ true → is_among (l ∷ ls) x ≡ true
among_more l x ls h = ap (λ b. nat_eq x l || b) h ∙ or_true (nat_eq x l)

-- what isn't the first is among the rest
pub among_rest : (l x : ℕ) (ls : List ℕ) → l < x → is_among (l ∷ ls) x ≡ is_among ls x
among_rest l x ls h = ap (λ b. b || is_among ls x) (nat_above x l h)

pub among_all : (P : ℕ → Type 0) (x : ℕ) (ls : List ℕ) → is_among ls x ≡ true → AllByRecursion P ls → P x
among_all P x [] e h = cc
among_all P x (l ∷ ls) e h = elim (or_parts (nat_eq x l) (is_among ls x) e) [ inl k ↦ subst P (sym (nat_same x l k)) h.0 | inr k ↦ among_all P x ls k h.1 ]

-- ---- the paths of a number

-- the levels of a path are levels
pub path_all : (P : ℕ → Type 0) (m : ℕ) (ls : List ℕ) → AllByRecursion P ls → AllByRecursion P (path_of m ls)
path_all P m [] h = tt
path_all P m (l ∷ []) h = h
path_all P m (l ∷ k ∷ ls) h = by_bit (m % 2 == 1) (path_all P (m / 2) (k ∷ ls) h.1)
  where
    by_bit : (b : Bool) → AllByRecursion P (path_of (m / 2) (k ∷ ls)) → AllByRecursion P (if b then l ∷ path_of (m / 2) (k ∷ ls) else path_of (m / 2) (k ∷ ls))
    by_bit true rest = (h.0, rest)
    by_bit false rest = rest

path_rising : (m : ℕ) (ls : List ℕ) → IsRising ls → IsRising (path_of m ls)
path_rising m [] h = tt
path_rising m (l ∷ []) h = (tt, tt)
path_rising m (l ∷ k ∷ ls) h = by_bit (m % 2 == 1) (path_rising (m / 2) (k ∷ ls) h.1)
  where
    by_bit : (b : Bool) → IsRising (path_of (m / 2) (k ∷ ls)) → IsRising (if b then l ∷ path_of (m / 2) (k ∷ ls) else path_of (m / 2) (k ∷ ls))
    by_bit true rest = (path_all (λ x. l < x) (m / 2) (k ∷ ls) h.0, rest)
    by_bit false rest = rest

path_last : (m : ℕ) (before : Option ℕ) (l : ℕ) (ls : List ℕ) → last_from before (path_of m (l ∷ ls)) ≡ last_from before (l ∷ ls)
path_last m before l [] = refl
path_last m before l (k ∷ ls) = by_bit (m % 2 == 1) (path_last (m / 2) before k ls) (path_last (m / 2) (Some l) k ls)
  where
    by_bit : (b : Bool) → last_from before (path_of (m / 2) (k ∷ ls)) ≡ last_from before (k ∷ ls) → last_from (Some l) (path_of (m / 2) (k ∷ ls)) ≡ last_from (Some l) (k ∷ ls)
        → last_from before (if b then l ∷ path_of (m / 2) (k ∷ ls) else path_of (m / 2) (k ∷ ls)) ≡ last_from before (l ∷ k ∷ ls)
    by_bit true skip take = take
    by_bit false skip take = skip

last_some : (before l : ℕ) (ls : List ℕ) → (x : ℕ) × (last_from (Some before) ls ≡ Some x)
last_some before l [] = (before, refl)
last_some before l (k ∷ ls) = last_some k l ls

all_among : (ls : List ℕ) → AllByRecursion (λ x. is_among ls x ≡ true) ls
all_among [] = tt
all_among (l ∷ ls) = (among_head l ls, all_each (λ x. is_among ls x ≡ true) (λ x. is_among (l ∷ ls) x ≡ true) (λ x h. among_more l x ls h) ls (all_among ls))

-- each number names a path
pub path_of_fits : (m l : ℕ) (ls : List ℕ) → IsRising (l ∷ ls) → IsPath (l ∷ ls) (path_of m (l ∷ ls))
path_of_fits m l ls h =
    let last = last_some l l ls in
    record {
      rising = path_rising m (l ∷ ls) h;
      known = path_all (λ x. is_among (l ∷ ls) x ≡ true) m (l ∷ ls) (all_among (l ∷ ls));
      finest = (last.0, path_last m None l ls ∙ last.1, last.1);
    }

-- ---- the number of a path

-- one more level, twice as many paths
pow_next : (n : ℕ) → 2 ^ (suc (suc n) - 1) ≡ 2 ^ (suc n - 1) * 2
pow_next n =
    let a : suc (suc n) - 1 ≡ suc n = omega arith in
    let b : n ≡ suc n - 1 = omega arith in
    ap (λ (k : ℕ). 2 ^ k) a ∙ pow-suc 2 n ∙ ap (λ (k : ℕ). 2 ^ k * 2) b

pub number_below : (ls path : List ℕ) → path_number ls path < 2 ^ (length ls - 1)
number_below [] path = omega arith
number_below (l ∷ []) path = omega arith
number_below (l ∷ k ∷ ls) path = by_bit (is_among path l) (number_below (k ∷ ls) path) (pow_next (length ls))
  where
    by_bit : (b : Bool) → path_number (k ∷ ls) path < 2 ^ (length (k ∷ ls) - 1) → 2 ^ (length (l ∷ k ∷ ls) - 1) ≡ 2 ^ (length (k ∷ ls) - 1) * 2
        → (if b then 1 else 0) + 2 * path_number (k ∷ ls) path < 2 ^ (length (l ∷ k ∷ ls) - 1)
    by_bit true h two = omega arith
    by_bit false h two = omega arith

-- a number that is below all levels may be put before
number_skips : (ls path : List ℕ) (x : ℕ) → AllByRecursion (λ k. x < k) ls → path_number ls (x ∷ path) ≡ path_number ls path
number_skips [] path x h = refl
number_skips (l ∷ []) path x h = refl
number_skips (l ∷ k ∷ ls) path x h =
    ap (λ b. (if b then 1 else 0) + 2 * path_number (k ∷ ls) (x ∷ path)) (among_rest x l path h.0)
    ∙ ap (λ n. (if is_among path l then 1 else 0) + 2 * n) (number_skips (k ∷ ls) path x h.1)

-- the path of an odd number takes the first level
take_level : (n l k : ℕ) (ls : List ℕ) → path_of (1 + 2 * n) (l ∷ k ∷ ls) ≡ l ∷ path_of n (k ∷ ls)
take_level n l k ls =
    ap (λ (r : ℕ). if r == 1 then l ∷ path_of ((1 + 2 * n) / 2) (k ∷ ls) else path_of ((1 + 2 * n) / 2) (k ∷ ls)) (odd n)
    ∙ ap (λ (m : ℕ). l ∷ path_of m (k ∷ ls)) (half_odd n)

skip_level : (n l k : ℕ) (ls : List ℕ) → path_of (2 * n) (l ∷ k ∷ ls) ≡ path_of n (k ∷ ls)
skip_level n l k ls =
    ap (λ (r : ℕ). if r == 1 then l ∷ path_of ((2 * n) / 2) (k ∷ ls) else path_of ((2 * n) / 2) (k ∷ ls)) (even n)
    ∙ ap (λ (m : ℕ). path_of m (k ∷ ls)) (half_even n)

number_by_bit : (m l k : ℕ) (ls : List ℕ) → AllByRecursion (λ x. l < x) (k ∷ ls) → path_number (k ∷ ls) (path_of (m / 2) (k ∷ ls)) ≡ m / 2
    → (m % 2 ≡ 1) ⊎ (m % 2 ≡ 0) → path_number (l ∷ k ∷ ls) (path_of m (l ∷ k ∷ ls)) ≡ m
number_by_bit m l k ls h half (inl one) =
    ap (λ (r : ℕ). path_number (l ∷ k ∷ ls) (if r == 1 then l ∷ path_of (m / 2) (k ∷ ls) else path_of (m / 2) (k ∷ ls))) one
    ∙ ap (λ b. (if b then 1 else 0) + 2 * path_number (k ∷ ls) (l ∷ path_of (m / 2) (k ∷ ls))) (among_head l (path_of (m / 2) (k ∷ ls)))
    ∙ ap (λ (n : ℕ). 1 + 2 * n) (number_skips (k ∷ ls) (path_of (m / 2) (k ∷ ls)) l h ∙ half)
    ∙ omega arith
number_by_bit m l k ls h half (inr none) =
    ap (λ (r : ℕ). path_number (l ∷ k ∷ ls) (if r == 1 then l ∷ path_of (m / 2) (k ∷ ls) else path_of (m / 2) (k ∷ ls))) none
    ∙ ap (λ b. (if b then 1 else 0) + 2 * path_number (k ∷ ls) (path_of (m / 2) (k ∷ ls))) (not_among l (path_of (m / 2) (k ∷ ls)) (path_all (λ x. l < x) (m / 2) (k ∷ ls) h))
    ∙ ap (λ (n : ℕ). 0 + 2 * n) half
    ∙ omega arith

bit : (m : ℕ) → (m % 2 ≡ 1) ⊎ (m % 2 ≡ 0)
bit m = by_size (eq-or-lt_of_le (let most : m % 2 ≤ 1 = omega arith in most))
  where
    by_size : (m % 2 ≡ 1) ⊎ (m % 2 < 1) → (m % 2 ≡ 1) ⊎ (m % 2 ≡ 0)
    by_size (inl e) = inl e
    by_size (inr less) = inr (omega arith)

half_below : (m n : ℕ) → m < 2 ^ (suc (suc n) - 1) → m / 2 < 2 ^ (suc n - 1)
half_below m n h = let two = pow_next n in omega arith

pub number_of_path : (ls : List ℕ) (m : ℕ) → IsRising ls → m < 2 ^ (length ls - 1) → path_number ls (path_of m ls) ≡ m
number_of_path [] m h b = omega arith
number_of_path (l ∷ []) m h b = omega arith
number_of_path (l ∷ k ∷ ls) m h b = number_by_bit m l k ls h.0 (number_of_path (k ∷ ls) (m / 2) h.1 (half_below m (length ls) b)) (bit m)

-- ---- the path of a path's number

no_some : {A : Type 0} (x : A) → None ≡ Some x → ⊥
no_some x e = cc

only : (l x : ℕ) → is_among (l ∷ []) x ≡ true → x ≡ l
only l x e = elim (or_parts (nat_eq x l) false e) [ inl k ↦ nat_same x l k | inr k ↦ absurd (let no : false ≡ true = k in cc) ]

one_path : (l : ℕ) (path : List ℕ) → IsPath (l ∷ []) path → path ≡ l ∷ []
one_path l [] p = absurd (no_some p.finest.0 p.finest.1)
one_path l (x ∷ []) p = ap (λ n. n ∷ []) (only l x p.known.0)
one_path l (x ∷ y ∷ path) p =
    let a = only l x p.known.0 in
    let b = only l y p.known.1.0 in
    let c = p.rising.0.0 in absurd (omega arith)

some_same : (x y : ℕ) → Some x ≡ Some y → x ≡ y
some_same x y e = cc

-- the last of levels above one is above it
last_above : (l k level : ℕ) (ls : List ℕ) → AllByRecursion (λ q. l < q) (k ∷ ls) → last_from (Some k) ls ≡ Some level → l < level
last_above l k level [] h e = subst (λ (n : ℕ). l < n) (some_same k level e) h.0
last_above l k level (j ∷ ls) h e = last_above l j level ls h.1 e

-- what is above the first level is among the others
pub known_rest : (l : ℕ) (ls path : List ℕ) → AllByRecursion (λ x. l < x) path → AllByRecursion (λ x. is_among (l ∷ ls) x ≡ true) path → AllByRecursion (λ x. is_among ls x ≡ true) path
known_rest l ls path = all_two (λ x. l < x) (λ x. is_among (l ∷ ls) x ≡ true) (λ x. is_among ls x ≡ true) (λ x a b. sym (among_rest l x ls a) ∙ b) path

path_after : (l k : ℕ) (ls path : List ℕ) → AllByRecursion (λ q. l < q) (k ∷ ls) → IsPath (l ∷ k ∷ ls) (l ∷ path) → IsPath (k ∷ ls) path
path_after l k ls [] h p = let a = last_above l k p.finest.0 ls h p.finest.2 in let b = some_same l p.finest.0 p.finest.1 in absurd (omega arith)
path_after l k ls (y ∷ path) h p = record { rising = p.rising.1; known = known_rest l (k ∷ ls) (y ∷ path) p.rising.0 p.known.1; finest = p.finest }

all_above : (l x : ℕ) (path : List ℕ) → l < x → AllByRecursion (λ q. x < q) path → AllByRecursion (λ q. l < q) (x ∷ path)
all_above l x path h more = (h, all_each (λ q. x < q) (λ q. l < q) (λ q k. omega arith) path more)

path_beside : (l k : ℕ) (ls path : List ℕ) → AllByRecursion (λ q. l < q) path → IsPath (l ∷ k ∷ ls) path → IsPath (k ∷ ls) path
path_beside l k ls path h p = record { rising = p.rising; known = known_rest l (k ∷ ls) path h p.known; finest = p.finest }

-- the path is that of its number, where this holds of the other levels
take_first : (l k x : ℕ) (ls path : List ℕ) → x ≡ l → AllByRecursion (λ q. l < q) (k ∷ ls) → IsPath (l ∷ k ∷ ls) (x ∷ path) → (IsPath (k ∷ ls) path → path_of (path_number (k ∷ ls) path) (k ∷ ls) ≡ path)
    → path_of (path_number (l ∷ k ∷ ls) (x ∷ path)) (l ∷ k ∷ ls) ≡ x ∷ path
take_first l k x ls path e h p rest = subst (λ (y : ℕ). path_of (path_number (l ∷ k ∷ ls) (y ∷ path)) (l ∷ k ∷ ls) ≡ y ∷ path) (sym e)
    (ap (λ b. path_of ((if b then 1 else 0) + 2 * path_number (k ∷ ls) (l ∷ path)) (l ∷ k ∷ ls)) (among_head l path)
    ∙ take_level (path_number (k ∷ ls) (l ∷ path)) l k ls
    ∙ ap (λ (n : ℕ). l ∷ path_of n (k ∷ ls)) (number_skips (k ∷ ls) path l h)
    ∙ ap (λ q. l ∷ q) (rest (path_after l k ls path h (subst (λ (y : ℕ). IsPath (l ∷ k ∷ ls) (y ∷ path)) e p))))

skip_first : (l k : ℕ) (ls path : List ℕ) → AllByRecursion (λ q. l < q) path → IsPath (l ∷ k ∷ ls) path → (IsPath (k ∷ ls) path → path_of (path_number (k ∷ ls) path) (k ∷ ls) ≡ path)
    → path_of (path_number (l ∷ k ∷ ls) path) (l ∷ k ∷ ls) ≡ path
skip_first l k ls path h p rest =
    ap (λ b. path_of ((if b then 1 else 0) + 2 * path_number (k ∷ ls) path) (l ∷ k ∷ ls)) (not_among l path h)
    ∙ ap (λ (n : ℕ). path_of n (l ∷ k ∷ ls)) (zero_plus (2 * path_number (k ∷ ls) path))
    ∙ skip_level (path_number (k ∷ ls) path) l k ls
    ∙ rest (path_beside l k ls path h p)

pub path_of_number : (ls path : List ℕ) → IsRising ls → IsPath ls path → path_of (path_number ls path) ls ≡ path
path_of_number [] path h p = absurd (no_some p.finest.0 p.finest.2)
path_of_number (l ∷ []) path h p = sym (one_path l path p)
path_of_number (l ∷ k ∷ ls) [] h p = absurd (no_some p.finest.0 p.finest.1)
path_of_number (l ∷ k ∷ ls) (x ∷ path) h p = by_head l k x ls path h p (or_parts (nat_eq x l) (is_among (k ∷ ls) x) p.known.0)
    (path_of_number (k ∷ ls) path h.1) (path_of_number (k ∷ ls) (x ∷ path) h.1)
  where
    by_head : (l k x : ℕ) (ls path : List ℕ) → IsRising (l ∷ k ∷ ls) → IsPath (l ∷ k ∷ ls) (x ∷ path) → (nat_eq x l ≡ true) ⊎ (is_among (k ∷ ls) x ≡ true)
        → (IsPath (k ∷ ls) path → path_of (path_number (k ∷ ls) path) (k ∷ ls) ≡ path)
        → (IsPath (k ∷ ls) (x ∷ path) → path_of (path_number (k ∷ ls) (x ∷ path)) (k ∷ ls) ≡ x ∷ path)
        → path_of (path_number (l ∷ k ∷ ls) (x ∷ path)) (l ∷ k ∷ ls) ≡ x ∷ path
    by_head l k x ls path h p (inl e) following beside = take_first l k x ls path (nat_same x l e) h.0 p following
    by_head l k x ls path h p (inr e) following beside =
        skip_first l k ls (x ∷ path) (all_above l x path (among_all (λ q. l < q) x (k ∷ ls) e h.0) p.rising.0) p beside
