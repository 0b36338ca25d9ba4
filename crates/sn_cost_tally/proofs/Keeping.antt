-- Marked rows, one after another.
use Rattle.std.proofs.Common.{◌≡◌, ℕ, zero, suc, ◌+◌, ◌≤◌, ◌<◌, List, [], ◌∷◌, ◌++◌, drop, take, filter, length, replicate, get_or, Bool, true, false, ◌&&◌, ◌||◌, cond, nat_eq, nat_lt, min, slice_get, Some, refl, ap, sym, ◌∙◌, append_assoc, arith}
use Rattle.std.proofs.lemmas.Bool.{ltb-true}
use Rattle.std.proofs.lemmas.List.{append-nil, drop_all, take_all}
use Rattle.std.specs.Cmp.Lexicographic.{nat_list_eq_equiv}
use Rattle.sn_base.specs.Groups.{Row}
use Rattle.sn_base.proofs.Lists.{and_parts, by_test, nat_same, none_some, some_same}
use Rattle.sn_base.proofs.Tests.{not_less_is}
use Rattle.sn_chain.specs.Chain.{has_home}
use Rattle.sn_cost_seats.specs.Tallies.{marked, sum_unmarked}
use Rattle.sn_cost_tally.specs.Places.{homes_among}

-- what is marked from a place on
abbrev ahead : {X : Type 0} → List Bool → List X → ℕ → List X
ahead marks xs i = marked (drop i marks) (drop i xs)

next_kept : {X : Type 0} (marks : List Bool) (xs : List X) (i : ℕ) (x : X) → slice_get xs i ≡ Some x → i < length marks → get_or marks i false ≡ true → ahead marks xs i ≡ x ∷ ahead marks xs (suc i)
next_kept [] xs i x is lt marks = absurd (omega (arith, lt))
next_kept (m ∷ ms) [] i x is lt marks = absurd (none_some is)
next_kept (m ∷ ms) (y ∷ ys) zero x is lt marks = ap (λ b. cond b (y ∷ marked ms ys) (marked ms ys)) marks ∙ ap (λ z. z ∷ marked ms ys) (some_same y x is)
next_kept (m ∷ ms) (y ∷ ys) (suc i) x is lt marks = next_kept ms ys i x is (omega (arith, lt)) marks

next_left : {X : Type 0} (marks : List Bool) (xs : List X) (i : ℕ) → i < length marks → i < length xs → get_or marks i false ≡ false → ahead marks xs i ≡ ahead marks xs (suc i)
next_left [] xs i lt within marks = absurd (omega (arith, lt))
next_left (m ∷ ms) [] i lt within marks = absurd (omega (arith, within))
next_left (m ∷ ms) (y ∷ ys) zero lt within marks = ap (λ b. cond b (y ∷ marked ms ys) (marked ms ys)) marks
next_left (m ∷ ms) (y ∷ ys) (suc i) lt within marks = next_left ms ys i (omega (arith, lt)) (omega (arith, within)) marks

none_marked : {X : Type 0} (marks : List Bool) → marked {X = X} marks [] ≡ []
none_marked [] = refl
none_marked (m ∷ ms) = refl

-- the items so far and those ahead are all that are marked
abbrev pub Kept : {X : Type 0} → List Bool → List X → ℕ → List X → Type 0
Kept marks xs i out = out ++ ahead marks xs i ≡ marked marks xs

pub one_kept : {X : Type 0} (marks : List Bool) (xs : List X) (i : ℕ) (x : X) (out new : List X) → i < length marks → get_or marks i false ≡ true → slice_get xs i ≡ Some x → new ≡ out ++ x ∷ []
    → Kept marks xs i out → Kept marks xs (i + 1) new
one_kept marks xs i x out new lt is at pushed so_far =
    let e : i + 1 ≡ suc i = omega arith in
    ap (λ n. new ++ ahead marks xs n) e ∙ ap (λ ys. ys ++ ahead marks xs (suc i)) pushed ∙ append_assoc out (x ∷ []) (ahead marks xs (suc i))
    ∙ sym (ap (λ ys. out ++ ys) (next_kept marks xs i x at lt is)) ∙ so_far

pub none_kept : {X : Type 0} (marks : List Bool) (xs : List X) (i : ℕ) (out new : List X) → i < length marks → i < length xs → get_or marks i false ≡ false → new ≡ out
    → Kept marks xs i out → Kept marks xs (i + 1) new
none_kept marks xs i out new lt within isnt same so_far =
    let e : i + 1 ≡ suc i = omega arith in
    ap (λ n. new ++ ahead marks xs n) e ∙ ap (λ ys. ys ++ ahead marks xs (suc i)) same
    ∙ sym (ap (λ ys. out ++ ys) (next_left marks xs i lt within isnt)) ∙ so_far

-- where no mark is ahead, or no item
pub all_kept : {X : Type 0} (marks : List Bool) (xs : List X) (i : ℕ) (out : List X) → min (length marks) (length xs) ≤ i → Kept marks xs i out → out ≡ marked marks xs
all_kept marks xs i out le so_far =
    by_test (nat_lt i (length marks))
    (λ is.
    let within : i < length marks = ltb-true i (length marks) is in
    let past : length xs ≤ i = omega (arith, within, le) in
    sym (append-nil out) ∙ ap (λ ys. out ++ ys) (sym (none_marked (drop i marks)) ∙ ap (marked (drop i marks)) (sym (drop_all i xs past))) ∙ so_far)
    (λ isnt.
    let past : length marks ≤ i = not_less_is i (length marks) isnt in
    sym (append-nil out) ∙ ap (λ ms. out ++ marked ms (drop i xs)) (sym (drop_all i marks past)) ∙ so_far)

-- as many are marked as marks of items are set
set_kept : {X : Type 0} (marks : List Bool) (xs : List X) → length (filter (λ m. m) (take (length xs) marks)) ≡ length (marked marks xs)
set_kept [] [] = refl
set_kept [] (x ∷ xs) = refl
set_kept (m ∷ ms) [] = refl
set_kept (true ∷ ms) (x ∷ xs) = ap suc (set_kept ms xs)
set_kept (false ∷ ms) (x ∷ xs) = set_kept ms xs

pub count_kept : {X : Type 0} (marks : List Bool) (xs : List X) → length (filter (λ m. m) (take (min (length marks) (length xs)) marks)) ≡ length (marked marks xs)
count_kept marks xs =
    ap (λ ms. length (filter (λ m. m) ms))
    (by_test (nat_lt (length xs) (length marks))
    (λ is. let fewer : length xs < length marks = ltb-true (length xs) (length marks) is in let e : min (length marks) (length xs) ≡ length xs = omega (arith, fewer) in ap (λ n. take n marks) e)
    (λ isnt.
    let more : length marks ≤ length xs = not_less_is (length xs) (length marks) isnt in
    let e : min (length marks) (length xs) ≡ length marks = omega (arith, more) in
    ap (λ n. take n marks) e ∙ take_all (length marks) marks (omega arith) ∙ sym (take_all (length xs) marks more)))
    ∙ set_kept marks xs

-- where there are no more marks than items, all that are set mark one
pub all_count : {X : Type 0} (marks : List Bool) (xs : List X) → length marks ≤ length xs → length (filter (λ m. m) marks) ≡ length (marked marks xs)
all_count marks xs le = ap (λ ms. length (filter (λ m. m) ms)) (sym (take_all (length xs) marks le)) ∙ set_kept marks xs

-- ---- no key in another's way

-- whether keys are none, or one with a register
abbrev are_alone : ℕ → List Row → Bool
are_alone depth keys = nat_eq (length keys) 0 || (nat_eq (length keys) 1 && nat_lt 0 depth)

few_keys : (n depth : ℕ) → (nat_eq n 0 || (nat_eq n 1 && nat_lt 0 depth)) ≡ true → n ≤ 1
few_keys n depth is =
    by_test (nat_eq n 0)
    (λ none. let e = nat_same n 0 none in omega (arith, e))
    (λ some.
    let one = and_parts (nat_eq n 1) (nat_lt 0 depth) (sym (ap (λ b. b || (nat_eq n 1 && nat_lt 0 depth)) some) ∙ is) in
    let e = nat_same n 1 one.0 in
    omega (arith, e))

-- a key alone has a home in the first register
pub alone_home : (depth slots : ℕ) (key : Row) → has_home (suc depth) slots (key ∷ []) key ≡ true
alone_home depth slots key = ap (λ b. b || false) (nat_list_eq_equiv.refl key)

pub none_over : (depth slots : ℕ) (keys : List Row) (times : List ℕ) → are_alone depth keys ≡ true → 0 ≡ sum_unmarked (homes_among depth slots keys) times
none_over depth slots [] times is = refl
none_over depth slots (key ∷ []) [] is = refl
none_over zero slots (key ∷ []) (n ∷ times) is = absurd cc
none_over (suc depth) slots (key ∷ []) (n ∷ times) is = sym (ap (λ b. cond b 0 n + 0) (alone_home depth slots key))
none_over depth slots (key ∷ other ∷ keys) times is = let few = few_keys (suc (suc (length keys))) depth is in absurd (omega (arith, few))

pub all_stay : (depth slots : ℕ) (keys : List Row) → are_alone depth keys ≡ true → replicate (length keys) true ≡ homes_among depth slots keys
all_stay depth slots [] is = refl
all_stay zero slots (key ∷ []) is = absurd cc
all_stay (suc depth) slots (key ∷ []) is = ap (λ b. b ∷ []) (sym (alone_home depth slots key))
all_stay depth slots (key ∷ other ∷ keys) is = let few = few_keys (suc (suc (length keys))) depth is in absurd (omega (arith, few))
