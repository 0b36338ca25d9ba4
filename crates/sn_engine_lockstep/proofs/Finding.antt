-- What is found in a list, and where.
use Rattle.std.proofs.Common.{◌≡◌, ℕ, zero, suc, ◌+◌, ◌<◌, List, [], ◌∷◌, ◌++◌, map, length, Bool, true, false, cond, Some, slice_get, refl, ap, sym, ◌∙◌, subst, arith}
use Rattle.std.specs.List.{AllByRecursion, find, range_with_len}
use Rattle.sn_base.proofs.Lists.{by_test, none_some, some_same}

-- one of a list passes a test, and is found
pub record Found {X : Type 0} (t : X → Bool) (xs : List X) : Type 0 where
  pub at : X
  pub place : ℕ
  pub stands : slice_get xs place ≡ Some at
  pub passes : t at ≡ true
  pub first : find t xs ≡ Some at

pub found : {X : Type 0} (t : X → Bool) (xs : List X) (i : ℕ) (x : X) → slice_get xs i ≡ Some x → t x ≡ true → Found t xs
found t [] i x at is = absurd (none_some at)
found {X = X} t (y ∷ xs) zero x at is =
    let same : t y ≡ true = ap t (some_same y x at) ∙ is in
    record { at = y; place = 0; stands = refl; passes = same; first = ap (λ b. cond b (Some y) (find t xs)) same }
found {X = X} t (y ∷ xs) (suc i) x at is =
    by_test (t y)
    (λ same. record { at = y; place = 0; stands = refl; passes = same; first = ap (λ b. cond b (Some y) (find t xs)) same })
    (λ isnt. let f = found t xs i x at is in
    record { at = f.at; place = suc f.place; stands = f.stands; passes = f.passes; first = ap (λ b. cond b (Some y) (find t xs)) isnt ∙ f.first })

-- none of a front passes
pub find_after : {X : Type 0} (t : X → Bool) (xs ys : List X) → AllByRecursion (λ x. t x ≡ false) xs → find t (xs ++ ys) ≡ find t ys
find_after t [] ys h = refl
find_after t (x ∷ xs) ys h = ap (λ b. cond b (Some x) (find t (xs ++ ys))) h.0 ∙ find_after t xs ys h.1

-- one of a front is found there
pub find_front : {X : Type 0} (t : X → Bool) (xs ys : List X) (x : X) → find t xs ≡ Some x → find t (xs ++ ys) ≡ Some x
find_front t [] ys x f = absurd (none_some f)
find_front t (y ∷ xs) ys x f =
    by_test (t y)
    (λ is. ap (λ b. cond b (Some y) (find t (xs ++ ys))) is ∙ sym (ap (λ b. cond b (Some y) (find t xs)) is) ∙ f)
    (λ isnt. ap (λ b. cond b (Some y) (find t (xs ++ ys))) isnt ∙ find_front t xs ys x (sym (ap (λ b. cond b (Some y) (find t xs)) isnt) ∙ f))

-- the first number of a range that passes
pub find_number : {X : Type 0} (t : X → Bool) (f : ℕ → X) (a n k : ℕ) → k < n → t (f (a + k)) ≡ true → ((i : ℕ) → i < k → t (f (a + i)) ≡ false) → find t (map f (range_with_len a n)) ≡ Some (f (a + k))
find_number t f a zero k lt is before = absurd (omega (arith, lt))
find_number t f a (suc n) zero lt is before =
    ap (λ b. cond b (Some (f a)) (find t (map f (range_with_len (a + 1) n)))) (ap (λ m. t (f m)) (none_more a) ∙ is) ∙ ap (λ m. Some (f m)) (none_more a)
  where
    none_more : (m : ℕ) → m ≡ m + 0
    none_more m = omega arith
find_number t f a (suc n) (suc k) lt is before =
    ap (λ b. cond b (Some (f a)) (find t (map f (range_with_len (a + 1) n)))) (ap (λ m. t (f m)) (none_more a) ∙ before 0 (omega arith))
    ∙ find_number t f (a + 1) n k (omega (arith, lt)) (ap (λ m. t (f m)) (moved k) ∙ is) (λ i below. ap (λ m. t (f m)) (moved i) ∙ before (suc i) (omega (arith, below)))
    ∙ ap (λ m. Some (f m)) (moved k)
  where
    none_more : (m : ℕ) → m ≡ m + 0
    none_more m = omega arith

    moved : (i : ℕ) → a + 1 + i ≡ a + suc i
    moved i = omega arith

pub get_map : {X Y : Type 0} (f : X → Y) (xs : List X) (i : ℕ) (x : X) → slice_get xs i ≡ Some x → slice_get (map f xs) i ≡ Some (f x)
get_map f [] i x e = absurd (none_some e)
get_map f (y ∷ xs) zero x e = ap (λ z. Some (f z)) (some_same y x e)
get_map f (y ∷ xs) (suc i) x e = get_map f xs i x e

pub record Mapped {X Y : Type 0} (f : X → Y) (xs : List X) (i : ℕ) (y : Y) : Type 0 where
  pub at : X
  pub stands : slice_get xs i ≡ Some at
  pub is : f at ≡ y

pub map_get : {X Y : Type 0} (f : X → Y) (xs : List X) (i : ℕ) (y : Y) → slice_get (map f xs) i ≡ Some y → Mapped f xs i y
map_get f [] i y e = absurd (none_some e)
map_get f (x ∷ xs) zero y e = record { at = x; stands = refl; is = some_same (f x) y e }
map_get f (x ∷ xs) (suc i) y e = let m = map_get f xs i y e in record { at = m.at; stands = m.stands; is = m.is }

pub get_front : {X : Type 0} (xs ys : List X) (i : ℕ) (x : X) → slice_get xs i ≡ Some x → slice_get (xs ++ ys) i ≡ Some x
get_front [] ys i x e = absurd (none_some e)
get_front (y ∷ xs) ys zero x e = e
get_front (y ∷ xs) ys (suc i) x e = get_front xs ys i x e

pub get_after : {X : Type 0} (xs ys : List X) (i : ℕ) (x : X) → slice_get ys i ≡ Some x → slice_get (xs ++ ys) (length xs + i) ≡ Some x
get_after {X} [] ys i x e = subst (λ n. slice_get ys n ≡ Some x) none_before e
  where
    none_before : i ≡ 0 + i
    none_before = omega arith
get_after {X} (y ∷ xs) ys i x e = subst (λ n. slice_get (y ∷ (xs ++ ys)) n ≡ Some x) one_more (get_after xs ys i x e)
  where
    one_more : suc (length xs + i) ≡ suc (length xs) + i
    one_more = omega arith
