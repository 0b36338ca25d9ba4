-- Small lemmas on tests, filters and lists that the crates above share.
use Rattle.std.proofs.Common.{◌≡◌, ℕ, ◌+◌, List, [], ◌∷◌, ◌++◌, map, filter, length, take, zero, suc, ◌<◌, ◌≤◌, slice_get, slice_index, Bool, true, false, not, ◌||◌, ◌&&◌, cond, nat_eq, Option, None, Some, is_some, is_none, unwrap_or, IfSome, refl, ap, sym, ◌∙◌, subst, eq-eqb, append-nil, append_assoc, arith}
use Rattle.std.specs.List.{list_any, find, AllByRecursion}
use Rattle.std.proofs.lemmas.Bool.{false≢true, eqb-true}
use Rattle.std.proofs.lemmas.List.{take_more, map-append}
use Rattle.std.proofs.lemmas.List.Folds.{list_any-append}
use Rattle.std.proofs.lemmas.Option.{slice_get_within, get_or_from_slice_get}

-- ---- tests

-- a split on a test
pub by_test : {G : Type 0} (b : Bool) → (b ≡ true → G) → (b ≡ false → G) → G
by_test true holds fails = holds refl
by_test false holds fails = fails refl

pub not_true : (b : Bool) → (b ≡ true → ⊥) → b ≡ false
not_true true h = absurd (h refl)
not_true false h = refl

pub not_false : (b : Bool) → not b ≡ false → b ≡ true
not_false true e = refl
not_false false e = sym e

-- both hold where their 'and' does, and the other way
pub and_parts : (a b : Bool) → (a && b) ≡ true → (a ≡ true) × (b ≡ true)
and_parts true b e = (refl, e)
and_parts false b e = cc

pub and_both : (a b : Bool) → a ≡ true → b ≡ true → (a && b) ≡ true
and_both a b e f = ap (λ x. x && b) e ∙ f

pub or_none : (a b : Bool) → (a || b) ≡ false → (a ≡ false) × (b ≡ false)
or_none true b e = cc
or_none false b e = (refl, e)

pub or_left : (a b : Bool) → a ≡ true → (a || b) ≡ true
or_left a b e = ap (λ x. x || b) e

pub or_right : (a b : Bool) → b ≡ true → (a || b) ≡ true
or_right true b e = refl
or_right false b e = e

pub or_true : (b : Bool) → (b || true) ≡ true
or_true true = refl
or_true false = refl

pub or_false : (b : Bool) → (b || false) ≡ b
or_false true = refl
or_false false = refl

pub or_turned : (a b c : Bool) → (a || (b || c)) ≡ (b || (a || c))
or_turned true true c = refl
or_turned true false c = refl
or_turned false true c = refl
or_turned false false c = refl

-- equal numbers pass their test, and others don't
pub nat_same : (a b : ℕ) → nat_eq a b ≡ true → a ≡ b
nat_same a b e = eqb-true a b e

pub nat_self : (a : ℕ) → nat_eq a a ≡ true
nat_self a = eq-eqb a a refl

-- ---- options

-- what holds of a value holds of one that equals it
pub reported_is : {X : Type 0} (P : X → Type 0) (reported : Option X) (x y : X) → y ≡ x → IfSome reported (λ z. x ≡ z) → P y → IfSome reported P
reported_is P None x y e same h = tt
reported_is P (Some z) x y e same h = subst P (e ∙ same) h

pub some_same : {X : Type 0} (x y : X) → Some x ≡ Some y → x ≡ y
some_same x y e = ap (λ o. unwrap_or o x) e

pub none_some : {X : Type 0} {x : X} → None ≡ Some x → ⊥
none_some e = cc

pub none_is : {X : Type 0} (o : Option X) → is_none o ≡ true → o ≡ None
none_is None e = refl
none_is (Some x) e = cc

-- ---- one element more, as a loop takes it

pub take_one : {X : Type 0} (xs : List X) (i : ℕ) (x : X) → slice_get xs i ≡ Some x → take (i + 1) xs ≡ take i xs ++ x ∷ []
take_one xs i x e = take_more xs i x (slice_get_within xs i x e) ∙ ap (λ y. take i xs ++ y ∷ []) (get_or_from_slice_get xs i x x e)

pub map_one : {X Y : Type 0} (f : X → Y) (xs : List X) (i : ℕ) (x : X) → slice_get xs i ≡ Some x → map f (take (i + 1) xs) ≡ map f (take i xs) ++ f x ∷ []
map_one f xs i x e = ap (map f) (take_one xs i x e) ∙ map-append f (take i xs) (x ∷ [])

-- what holds of no element, and of a list with one element more wherever it holds of the list, holds of every list
pub by_pushes : {X : Type 0} (P : List X → Type 0) → P [] → ((xs : List X) (x : X) → P xs → P (xs ++ x ∷ [])) → (xs : List X) → P xs
by_pushes {X = X} P none push xs = following [] xs none
  where
    following : (front back : List X) → P front → P (front ++ back)
    following front [] h = subst P (sym (append-nil front)) h
    following front (x ∷ back) h = subst P (append_assoc front (x ∷ []) back) (following (front ++ x ∷ []) back (push front x h))

pub any_push : {X : Type 0} (t : X → Bool) (xs : List X) (x : X) → list_any t (xs ++ x ∷ []) ≡ (list_any t xs || t x)
any_push t xs x = list_any-append t xs (x ∷ []) ∙ ap (λ b. list_any t xs || b) (or_false (t x))

-- ---- filters

-- a filter after a wider one
pub filter_within : {A : Type 0} (p q : A → Bool) → ((x : A) → p x ≡ true → q x ≡ true) → (xs : List A) → filter p (filter q xs) ≡ filter p xs
filter_within p q wider [] = refl
filter_within p q wider (x ∷ xs) =
    by_test (q x)
    (λ is. ap (λ b. filter p (cond b (x ∷ filter q xs) (filter q xs))) is ∙ ap (λ ys. cond (p x) (x ∷ ys) ys) (filter_within p q wider xs))
    (λ isnt. ap (λ b. filter p (cond b (x ∷ filter q xs) (filter q xs))) isnt ∙ filter_within p q wider xs
    ∙ sym (by_test (p x) (λ was. absurd (false≢true (sym isnt ∙ wider x was))) (λ wasnt. ap (λ b. cond b (x ∷ filter p xs) (filter p xs)) wasnt)))

-- a filter after one that excludes it
pub filter_never : {A : Type 0} (p q : A → Bool) → ((x : A) → p x ≡ true → q x ≡ false) → (xs : List A) → filter p (filter q xs) ≡ []
filter_never p q apart [] = refl
filter_never p q apart (x ∷ xs) =
    by_test (q x)
    (λ is. ap (λ b. filter p (cond b (x ∷ filter q xs) (filter q xs))) is
    ∙ by_test (p x) (λ was. absurd (false≢true (sym (apart x was) ∙ is))) (λ wasnt. ap (λ b. cond b (x ∷ filter p (filter q xs)) (filter p (filter q xs))) wasnt)
    ∙ filter_never p q apart xs)
    (λ isnt. ap (λ b. filter p (cond b (x ∷ filter q xs) (filter q xs))) isnt ∙ filter_never p q apart xs)

-- two filters may be exchanged
pub filter_turned : {A : Type 0} (p q : A → Bool) (xs : List A) → filter p (filter q xs) ≡ filter q (filter p xs)
filter_turned p q [] = refl
filter_turned p q (x ∷ xs) =
    let e = filter_turned p q xs in
    by_test (q x)
    (λ is. ap (λ b. filter p (cond b (x ∷ filter q xs) (filter q xs))) is ∙ ap (λ ys. cond (p x) (x ∷ ys) ys) e
    ∙ by_test (p x)
    (λ was. ap (λ b. cond b (x ∷ filter q (filter p xs)) (filter q (filter p xs))) was ∙ sym (ap (λ b. filter q (cond b (x ∷ filter p xs) (filter p xs))) was ∙ ap (λ b. cond b (x ∷ filter q (filter p xs)) (filter q (filter p xs))) is))
    (λ wasnt. ap (λ b. cond b (x ∷ filter q (filter p xs)) (filter q (filter p xs))) wasnt ∙ sym (ap (λ b. filter q (cond b (x ∷ filter p xs) (filter p xs))) wasnt)))
    (λ isnt. ap (λ b. filter p (cond b (x ∷ filter q xs) (filter q xs))) isnt ∙ e
    ∙ sym (by_test (p x)
    (λ was. ap (λ b. filter q (cond b (x ∷ filter p xs) (filter p xs))) was ∙ ap (λ b. cond b (x ∷ filter q (filter p xs)) (filter q (filter p xs))) isnt)
    (λ wasnt. ap (λ b. filter q (cond b (x ∷ filter p xs) (filter p xs))) wasnt)))

-- a filter of a map
pub filter_map : {A B : Type 0} (f : A → B) (t : B → Bool) (xs : List A) → map f (filter (λ x. t (f x)) xs) ≡ filter t (map f xs)
filter_map f t [] = refl
filter_map f t (x ∷ xs) =
    elim (t (f x)) as (λ b. map f (cond b (x ∷ filter (λ y. t (f y)) xs) (filter (λ y. t (f y)) xs)) ≡ cond b (f x ∷ filter t (map f xs)) (filter t (map f xs))) [
      | true ↦ ap (λ ys. f x ∷ ys) (filter_map f t xs)
      | false ↦ filter_map f t xs
    ]

-- where no element fails, the filter keeps all
pub filter_all : {A : Type 0} (t : A → Bool) (xs : List A) → filter (λ x. not (t x)) xs ≡ [] → filter t xs ≡ xs
filter_all t [] e = refl
filter_all t (x ∷ xs) e =
    by_test (t x)
    (λ is. ap (λ b. cond b (x ∷ filter t xs) (filter t xs)) is ∙ ap (λ ys. x ∷ ys) (filter_all t xs (sym (ap (λ b. cond (not b) (x ∷ filter (λ y. not (t y)) xs) (filter (λ y. not (t y)) xs)) is) ∙ e)))
    (λ isnt. absurd (cons_nil (sym (ap (λ b. cond (not b) (x ∷ filter (λ y. not (t y)) xs) (filter (λ y. not (t y)) xs)) isnt) ∙ e)))
  where
    cons_nil : {B : Type 0} {y : B} {ys : List B} → y ∷ ys ≡ [] → ⊥
    cons_nil h = cc

-- where a test finds none, its filter is empty
pub filter_none : {K : Type 0} (p : K → Bool) (ks : List K) → list_any p ks ≡ false → filter p ks ≡ []
filter_none p [] h = refl
filter_none p (k ∷ ks) h =
    by_test (p k)
    (λ is. absurd (false≢true (sym h ∙ ap (λ b. b || list_any p ks) is)))
    (λ isnt. ap (λ b. cond b (k ∷ filter p ks) (filter p ks)) isnt ∙ filter_none p ks (sym (ap (λ b. b || list_any p ks) isnt) ∙ h))

-- a test finds one where its filter has one
pub any_some : {X : Type 0} (p : X → Bool) (xs : List X) → list_any p xs ≡ list_any (λ x. true) (filter p xs)
any_some p [] = refl
any_some p (x ∷ xs) = elim (p x) as (λ b. (b || list_any p xs) ≡ list_any (λ y. true) (cond b (x ∷ filter p xs) (filter p xs))) [ true ↦ refl | false ↦ any_some p xs ]

-- ---- maps

pub map_agree : {A B : Type 0} (f g : A → B) → ((x : A) → f x ≡ g x) → (xs : List A) → map f xs ≡ map g xs
map_agree f g e [] = refl
map_agree f g e (x ∷ xs) = ap (λ y. y ∷ map f xs) (e x) ∙ ap (λ ys. g x ∷ ys) (map_agree f g e xs)

-- two functions that agree on what passes
pub map_where : {A B : Type 0} (f g : A → B) (t : A → Bool) → ((x : A) → t x ≡ true → f x ≡ g x) → (xs : List A) → map f (filter t xs) ≡ map g (filter t xs)
map_where f g t e [] = refl
map_where f g t e (x ∷ xs) =
    by_test (t x)
    (λ is. ap (λ b. map f (cond b (x ∷ filter t xs) (filter t xs))) is
    ∙ ap (λ y. y ∷ map f (filter t xs)) (e x is) ∙ ap (λ ys. g x ∷ ys) (map_where f g t e xs)
    ∙ sym (ap (λ b. map g (cond b (x ∷ filter t xs) (filter t xs))) is))
    (λ isnt. ap (λ b. map f (cond b (x ∷ filter t xs) (filter t xs))) isnt ∙ map_where f g t e xs ∙ sym (ap (λ b. map g (cond b (x ∷ filter t xs) (filter t xs))) isnt))

-- a map of a map
pub map_both : {A B C : Type 0} (f : A → B) (h : B → C) (xs : List A) → map h (map f xs) ≡ map (λ x. h (f x)) xs
map_both f h [] = refl
map_both f h (x ∷ xs) = ap (λ ys. h (f x) ∷ ys) (map_both f h xs)

-- ---- all

pub all_filter : {X : Type 0} (P : X → Type 0) (t : X → Bool) (xs : List X) → AllByRecursion P xs → AllByRecursion P (filter t xs)
all_filter P t [] h = tt
all_filter P t (x ∷ xs) h =
    elim (t x) as (λ b. AllByRecursion P (cond b (x ∷ filter t xs) (filter t xs))) [ true ↦ (h.0, all_filter P t xs h.1) | false ↦ all_filter P t xs h.1 ]

pub all_map : {X Y : Type 0} (P : Y → Type 0) (f : X → Y) (xs : List X) → AllByRecursion (λ x. P (f x)) xs → AllByRecursion P (map f xs)
all_map P f [] h = tt
all_map P f (x ∷ xs) h = (h.0, all_map P f xs h.1)

pub all_weaker : {X : Type 0} (P Q : X → Type 0) → ((x : X) → P x → Q x) → (xs : List X) → AllByRecursion P xs → AllByRecursion Q xs
all_weaker P Q w [] h = tt
all_weaker P Q w (x ∷ xs) h = (w x h.0, all_weaker P Q w xs h.1)

pub all_append : {X : Type 0} (P : X → Type 0) (xs ys : List X) → AllByRecursion P xs → AllByRecursion P ys → AllByRecursion P (xs ++ ys)
all_append P [] ys h k = k
all_append P (x ∷ xs) ys h k = (h.0, all_append P xs ys h.1 k)

-- ---- find

-- nothing is found where less passes
pub find_less : {X : Type 0} (p q : X → Bool) → ((x : X) → p x ≡ false → q x ≡ false) → (xs : List X) → find p xs ≡ None → find q xs ≡ None
find_less p q less [] none = refl
find_less p q less (x ∷ xs) none =
    by_test (p x)
    (λ is. cc (none, ap (λ b. cond b (Some x) (find p xs)) is))
    (λ isnt. ap (λ b. cond b (Some x) (find q xs)) (less x isnt) ∙ find_less p q less xs (sym (ap (λ b. cond b (Some x) (find p xs)) isnt) ∙ none))

-- what is found passes
pub find_is : {X : Type 0} (t : X → Bool) (xs : List X) (x : X) → find t xs ≡ Some x → t x ≡ true
find_is t [] x e = cc
find_is t (y ∷ ys) x e =
    by_test (t y)
    (λ is. let same : y ≡ x = some_same y x (sym (ap (λ b. cond b (Some y) (find t ys)) is) ∙ e) in ap t (sym same) ∙ is)
    (λ isnt. find_is t ys x (sym (ap (λ b. cond b (Some y) (find t ys)) isnt) ∙ e))

-- and is one of the list
pub find_among : (t : ℕ → Bool) (xs : List ℕ) (x : ℕ) → find t xs ≡ Some x → list_any (nat_eq x) xs ≡ true
find_among t [] x e = cc
find_among t (y ∷ ys) x e =
    by_test (t y)
    (λ is. let same : y ≡ x = some_same y x (sym (ap (λ b. cond b (Some y) (find t ys)) is) ∙ e) in or_left (nat_eq x y) (list_any (nat_eq x) ys) (ap (nat_eq x) same ∙ nat_self x))
    (λ isnt. or_right (nat_eq x y) (list_any (nat_eq x) ys) (find_among t ys x (sym (ap (λ b. cond b (Some y) (find t ys)) isnt) ∙ e)))

-- tests that agree find the same
pub find_same : {X : Type 0} (s t : X → Bool) → ((x : X) → s x ≡ t x) → (xs : List X) → find s xs ≡ find t xs
find_same s t e [] = refl
find_same s t e (x ∷ xs) = ap (λ b. cond b (Some x) (find s xs)) (e x) ∙ ap (cond (t x) (Some x)) (find_same s t e xs)

-- an element that passes is found, or one before it
pub find_some : (t : ℕ → Bool) (xs : List ℕ) (x : ℕ) → list_any (nat_eq x) xs ≡ true → t x ≡ true → is_some (find t xs) ≡ true
find_some t [] x among passes = absurd (false≢true among)
find_some t (y ∷ ys) x among passes =
    by_test (t y)
    (λ is. ap (λ b. is_some (cond b (Some y) (find t ys))) is)
    (λ isnt. ap (λ b. is_some (cond b (Some y) (find t ys))) isnt ∙ find_some t ys x (by_test (nat_eq x y)
    (λ same. absurd (false≢true (sym isnt ∙ ap t (sym (nat_same x y same)) ∙ passes)))
    (λ other. sym (ap (λ b. b || list_any (nat_eq x) ys) other) ∙ among)) passes)

-- ---- filters that agree

pub filter_same : {X : Type 0} (f g : X → Bool) → ((x : X) → f x ≡ g x) → (xs : List X) → filter f xs ≡ filter g xs
filter_same f g same [] = refl
filter_same f g same (x ∷ xs) = rw (same x, filter_same f g same xs) refl

pub filter_keeps : {X : Type 0} (t : X → Bool) (xs : List X) → AllByRecursion (λ x. t x ≡ true) xs → filter t xs ≡ xs
filter_keeps t [] h = refl
filter_keeps t (x ∷ xs) h = ap (λ b. cond b (x ∷ filter t xs) (filter t xs)) h.0 ∙ ap (λ ys. x ∷ ys) (filter_keeps t xs h.1)

pub filter_short : {X : Type 0} (t : X → Bool) (xs : List X) → length (filter t xs) ≤ length xs
filter_short t [] = omega arith
filter_short t (x ∷ xs) =
    let rest = filter_short t xs in
    (elim (t x) as (λ b. length (cond b (x ∷ filter t xs) (filter t xs)) ≤ suc (length xs)) [ true ↦ omega (arith, rest) | false ↦ omega (arith, rest) ])

pub none_all : {X : Type 0} (t : X → Bool) (xs : List X) → list_any t xs ≡ false → AllByRecursion (λ x. t x ≡ false) xs
none_all t [] e = tt
none_all t (x ∷ xs) e = let parts = or_none (t x) (list_any t xs) e in (parts.0, none_all t xs parts.1)

pub map_front : {X Y : Type 0} (f : X → Y) (n : ℕ) (xs : List X) → map f (take n xs) ≡ take n (map f xs)
map_front f zero xs = refl
map_front f (suc n) [] = refl
map_front f (suc n) (x ∷ xs) = ap (λ ys. f x ∷ ys) (map_front f n xs)

-- ---- facts on each item

pub all_of : {X : Type 0} (P : X → Type 0) → ((x : X) → P x) → (xs : List X) → AllByRecursion P xs
all_of P h [] = tt
all_of P h (x ∷ xs) = (h x, all_of P h xs)

pub all_two : {X : Type 0} (P Q R : X → Type 0) → ((x : X) → P x → Q x → R x) → (xs : List X) → AllByRecursion P xs → AllByRecursion Q xs → AllByRecursion R xs
all_two P Q R f [] h k = tt
all_two P Q R f (x ∷ xs) h k = (f x h.0 k.0, all_two P Q R f xs h.1 k.1)

pub all_both : {X : Type 0} (P Q : X → Type 0) (xs : List X) → AllByRecursion P xs → AllByRecursion Q xs → AllByRecursion (λ x. P x × Q x) xs
all_both P Q [] h k = tt
all_both P Q (x ∷ xs) h k = ((h.0, k.0), all_both P Q xs h.1 k.1)

pub all_unmap : {X Y : Type 0} (P : Y → Type 0) (f : X → Y) (xs : List X) → AllByRecursion P (map f xs) → AllByRecursion (λ x. P (f x)) xs
all_unmap P f [] h = tt
all_unmap P f (x ∷ xs) h = (h.0, all_unmap P f xs h.1)

pub all_front : {X : Type 0} (P : X → Type 0) (xs ys : List X) → AllByRecursion P (xs ++ ys) → AllByRecursion P xs
all_front P [] ys h = tt
all_front P (x ∷ xs) ys h = (h.0, all_front P xs ys h.1)

pub all_rest : {X : Type 0} (P : X → Type 0) (xs ys : List X) → AllByRecursion P (xs ++ ys) → AllByRecursion P ys
all_rest P [] ys h = h
all_rest P (x ∷ xs) ys h = all_rest P xs ys h.1

pub all_at : (P : ℕ → Type 0) (ns : List ℕ) (i : ℕ) → AllByRecursion P ns → i < length ns → P (slice_index ns i)
all_at P [] i h lt = absurd (omega (arith, lt))
all_at P (n ∷ ns) zero h lt = h.0
all_at P (n ∷ ns) (suc i) h lt = all_at P ns i h.1 (omega (arith, lt))

pub index_within : {X : Type 0} (xs : List X) (i : ℕ) (x : X) → slice_get xs i ≡ Some x → i < length xs
index_within [] i x e = absurd (none_some e)
index_within (y ∷ ys) zero x e = omega arith
index_within (y ∷ ys) (suc i) x e = let rest = index_within ys i x e in omega (arith, rest)
