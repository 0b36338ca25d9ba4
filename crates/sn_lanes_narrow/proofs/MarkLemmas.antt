-- Marks of several conditions.
use Rattle.std.proofs.Common.{◌≡◌, ℕ, suc, zero, ◌+◌, ◌-◌, ◌<◌, List, [], ◌∷◌, ◌++◌, length, take, drop, drop-cons, get_or, set, map, Bool, true, false, ◌&&◌, bit_and, replicate, refl, ap, sym, ◌∙◌, add-one, arith}
use Rattle.std.specs.Simd.Lanes.{zip2}
use Rattle.std.proofs.lemmas.Grind.{drop_more_same}
use Rattle.std.proofs.lemmas.List.{drop-set-lt, take_more, take_more_set}
use Rattle.sn_lanes_narrow.specs.Marks.{asks, asks_all, mark, marks_of, marks_of_all}
use Rattle.sn_lanes_narrow.specs.declared.condition.Condition.{Condition}

zip_more : (f : ℕ → ℕ → ℕ) (xs ys : List ℕ) (i : ℕ) → i < length xs → i < length ys → zip2 f (take (suc i) xs) (take (suc i) ys) ≡ zip2 f (take i xs) (take i ys) ++ f (get_or xs i 0) (get_or ys i 0) ∷ []
zip_more f [] ys i a b = absurd (omega arith)
zip_more f (x ∷ xs) [] i a b = absurd (omega arith)
zip_more f (x ∷ xs) (y ∷ ys) zero a b = refl
zip_more f (x ∷ xs) (y ∷ ys) (suc i) a b = ap (λ zs. f x y ∷ zs) (zip_more f xs ys i (omega arith) (omega arith))

same_head : (xs ys : List ℕ) (i : ℕ) → i < length xs → i < length ys → drop i xs ≡ drop i ys → get_or xs i 0 ≡ get_or ys i 0
same_head xs ys i a b e = ap (λ (zs : List ℕ). get_or zs 0 0) (sym (drop-cons xs i 0 a) ∙ e ∙ drop-cons ys i 0 b)

pub record Anded (f : ℕ → ℕ → ℕ) (out before marks : List ℕ) (i : ℕ) : Type 0 where
  pub done : take i out ≡ zip2 f (take i before) (take i marks)
  pub rest : drop i out ≡ drop i before

-- one mark more
pub anded_more : (f : ℕ → ℕ → ℕ) (out before marks : List ℕ) (i x : ℕ) → i < length out → i < length before → i < length marks → x ≡ f (get_or out i 0) (get_or marks i 0)
    → take i out ≡ zip2 f (take i before) (take i marks) → drop i out ≡ drop i before → Anded f (set out i x) before marks (i + 1)
anded_more f out before marks i x a b c is done rest =
    let same = same_head out before i a b rest in
    record {
      done = take_more_set out i x a
          ∙ ap (λ ys. ys ++ x ∷ []) done
          ∙ ap (λ y. zip2 f (take i before) (take i marks) ++ y ∷ []) (is ∙ ap (λ y. f y (get_or marks i 0)) same)
          ∙ sym (zip_more f before marks i b c)
          ∙ ap (λ n. zip2 f (take n before) (take n marks)) (sym (add-one i));
      rest = drop-set-lt (i + 1) out i x (omega arith) ∙ drop_more_same out before i rest;
    }

-- marks and-ed are the marks of what holds of both
both_marks : (a b : Bool) → bit_and (mark a) (mark b) ≡ mark (a && b)
both_marks true true = refl
both_marks true false = refl
both_marks false true = refl
both_marks false false = refl

anded_maps : (p q : List ℕ → Bool) (tuples : List (List ℕ)) → zip2 bit_and (map (λ t. mark (p t)) tuples) (map (λ t. mark (q t)) tuples) ≡ map (λ t. mark (p t && q t)) tuples
anded_maps p q [] = refl
anded_maps p q (t ∷ tuples) = ap (λ x. x ∷ zip2 bit_and (map (λ t. mark (p t)) tuples) (map (λ t. mark (q t)) tuples)) (both_marks (p t) (q t)) ∙ ap (λ xs. mark (p t && q t) ∷ xs) (anded_maps p q tuples)

and_true : (b : Bool) → (b && true) ≡ b
and_true true = refl
and_true false = refl

and_assoc : (a b c : Bool) → ((a && b) && c) ≡ (a && (b && c))
and_assoc true b c = refl
and_assoc false b c = refl

all_more : (conditions : List Condition) (c : Condition) (tuple : List ℕ) → asks_all (conditions ++ c ∷ []) tuple ≡ (asks_all conditions tuple && asks c tuple)
all_more [] c tuple = and_true (asks c tuple)
all_more (d ∷ conditions) c tuple = ap (λ b. asks d tuple && b) (all_more conditions c tuple) ∙ sym (and_assoc (asks d tuple) (asks_all conditions tuple) (asks c tuple))

same_marks : (p q : List ℕ → Bool) → ((t : List ℕ) → p t ≡ q t) → (tuples : List (List ℕ)) → map (λ t. mark (p t)) tuples ≡ map (λ t. mark (q t)) tuples
same_marks p q e [] = refl
same_marks p q e (t ∷ tuples) = ap (λ b. mark b ∷ map (λ t. mark (p t)) tuples) (e t) ∙ ap (λ xs. mark (q t) ∷ xs) (same_marks p q e tuples)

-- the marks of one condition more
pub marks_more : (conditions : List Condition) (c : Condition) (tuples : List (List ℕ)) → zip2 bit_and (marks_of_all conditions tuples) (marks_of c tuples) ≡ marks_of_all (conditions ++ c ∷ []) tuples
marks_more conditions c tuples =
    anded_maps (asks_all conditions) (asks c) tuples
    ∙ same_marks (λ t. asks_all conditions t && asks c t) (asks_all (conditions ++ c ∷ [])) (λ t. sym (all_more conditions c t)) tuples

pub marks_step : (conditions : List Condition) (i : ℕ) (d : Condition) (tuples : List (List ℕ)) (passed new : List ℕ) → i < length conditions → passed ≡ marks_of_all (take i conditions) tuples
    → new ≡ zip2 bit_and passed (marks_of (get_or conditions i d) tuples) → new ≡ marks_of_all (take (i + 1) conditions) tuples
marks_step conditions i d tuples passed new within so_far is =
    is
    ∙ ap (λ xs. zip2 bit_and xs (marks_of (get_or conditions i d) tuples)) so_far
    ∙ marks_more (take i conditions) (get_or conditions i d) tuples
    ∙ ap (λ (cs : List Condition). marks_of_all cs tuples) (sym (take_more conditions i d within))

all_ones : (tuples : List (List ℕ)) → replicate (length tuples) 1 ≡ marks_of_all [] tuples
all_ones [] = refl
all_ones (t ∷ tuples) = ap (λ xs. 1 ∷ xs) (all_ones tuples)

none_taken : (n : ℕ) → take {A = ℕ} n [] ≡ []
none_taken zero = refl
none_taken (suc n) = refl

-- no condition marks all
pub no_condition : (tuples : List (List ℕ)) (held : List ℕ) (count : ℕ) → held ≡ [] → count ≡ 0 → take (length tuples) held ++ replicate (length tuples - count) 1 ≡ marks_of_all [] tuples
no_condition tuples held count none zero_is =
    let n = length tuples in
    ap (λ xs. take n xs ++ replicate (n - count) 1) none
    ∙ ap (λ xs. xs ++ replicate (n - count) 1) (none_taken n)
    ∙ ap (λ k. replicate k 1) (omega (arith, zero_is))
    ∙ all_ones tuples

pub same_condition : (c d : Condition) → c.field ≡ d.field → c.and ≡ d.and → c.cmp ≡ d.cmp → c.constant ≡ d.constant → c ≡ d
same_condition c d field and cmp constant = λ i. record { field = field i; and = and i; cmp = cmp i; constant = constant i }
