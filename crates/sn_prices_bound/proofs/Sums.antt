-- Sums and leasts of what is known, made one after another.
use Rattle.std.proofs.Common.{◌≡◌, ℕ, zero, suc, ◌+◌, ◌≤◌, ◌<◌, List, [], ◌∷◌, map, length, get_or, drop, refl, ap, sym, ◌∙◌, arith, add-one}
use Rattle.std.specs.List.{sum_by, range_with_len}
use Rattle.std.proofs.lemmas.List.Sums.{sum_by-cons}
use Rattle.sn_switch.specs.declared.switch.Switch.{Switch}
use Rattle.sn_types.specs.declared.typed_query.TypedQuery.{TypedQuery}
use Rattle.sn_plan_choices.specs.Planning.{PathTask}
use Rattle.sn_plan_space.specs.Known.{numbered}
use Rattle.sn_prices_grammar.specs.declared.prices.Prices.{Prices}
use Rattle.sn_prices.specs.Limits.{stage_worth, stages_worth}
use Rattle.sn_prices.specs.Least.{least_query, least_queries}

pub stage_more : (s : Switch) (p : Prices) (n : ℕ) → stages_worth s p (n + 1) ≡ stages_worth s p n + stage_worth s p n
stage_more s p n = ap (stages_worth s p) (add-one n)

-- ---- what is at a place of a list that was mapped

-- the mapped element at a place comes from the element there
mapped_there : {A B : Type 0} (f : A → B) (xs : List A) (i : ℕ) (y : B) → i < length (map f xs) → y ≡ get_or (map f xs) i y
    → (x : A) × (y ≡ f x) × (drop i xs ≡ x ∷ drop (suc i) xs)
mapped_there f [] i y h e = absurd (omega arith)
mapped_there f (x ∷ xs) zero y h e = (x, e, refl)
mapped_there f (x ∷ xs) (suc i) y h e = mapped_there f xs i y (omega arith) e

-- the same of what the code knows
pub mapped_at : {A B : Type 0} (f : A → B) (xs : List A) (ys : List B) (i : ℕ) (y : B) → ys ≡ map f xs → i < length ys → y ≡ get_or ys i y
    → (x : A) × (y ≡ f x) × (drop i xs ≡ x ∷ drop (i + 1) xs)
mapped_at f xs ys i y m h e =
    let long = ap length m in
    let k = mapped_there f xs i y (omega arith) (e ∙ ap (λ l. get_or l i y) m) in
    (k.0, k.1, k.2 ∙ ap (λ j. k.0 ∷ drop j xs) (sym (add-one i)))

pub sum_more : {A : Type 0} (f : A → ℕ) (xs : List A) (i total now whole : ℕ) (x : A) → drop i xs ≡ x ∷ drop (i + 1) xs → now ≡ total + f x
    → total + sum_by f (drop i xs) ≡ whole → now + sum_by f (drop (i + 1) xs) ≡ whole
sum_more f xs i total now whole x d e w = let a = ap (sum_by f) d in let b = sum_by-cons f x (drop (i + 1) xs) in omega arith

-- ---- queries by their numbers

numbered_there : {B : Type 0} (f : PathTask → B) (n : ℕ) (qs : List TypedQuery) (i : ℕ) (y : B) → i < length (map f (numbered n qs)) → y ≡ get_or (map f (numbered n qs)) i y
    → (q : TypedQuery) × (y ≡ f (record { query = n + i; typed = q })) × (drop i qs ≡ q ∷ drop (suc i) qs)
numbered_there f n [] i y h e = absurd (omega arith)
numbered_there f n (q ∷ qs) zero y h e = (q, e ∙ ap (λ k. f (record { query = k; typed = q })) (let z : n ≡ n + 0 = omega arith in z), refl)
numbered_there f n (q ∷ qs) (suc i) y h e =
    let k = numbered_there f (n + 1) qs i y (omega arith) e in
    (k.0, k.1 ∙ ap (λ j. f (record { query = j; typed = k.0 })) (let z : n + 1 + i ≡ n + suc i = omega arith in z), k.2)

pub numbered_at : {B : Type 0} (f : PathTask → B) (qs : List TypedQuery) (ys : List B) (i : ℕ) (y : B) → ys ≡ map f (numbered 0 qs) → i < length ys → y ≡ get_or ys i y
    → (q : TypedQuery) × (y ≡ f (record { query = i; typed = q })) × (drop i qs ≡ q ∷ drop (i + 1) qs)
numbered_at f qs ys i y m h e =
    let long = ap length m in
    let k = numbered_there f 0 qs i y (omega arith) (e ∙ ap (λ l. get_or l i y) m) in
    (k.0, k.1 ∙ ap (λ j. f (record { query = j; typed = k.0 })) (let z : 0 + i ≡ i = omega arith in z), k.2 ∙ ap (λ j. k.0 ∷ drop j qs) (sym (add-one i)))

numbered_count : {B : Type 0} (f : PathTask → B) (n : ℕ) (qs : List TypedQuery) → length (map f (numbered n qs)) ≡ length qs
numbered_count f n [] = refl
numbered_count f n (q ∷ qs) = ap suc (numbered_count f (n + 1) qs)

pub as_many : {B : Type 0} (f : PathTask → B) (qs : List TypedQuery) (ys : List B) → ys ≡ map f (numbered 0 qs) → length ys ≡ length qs
as_many f qs ys m = ap length m ∙ numbered_count f 0 qs

dropped : {A : Type 0} (i : ℕ) (xs : List A) → length xs ≤ i → drop i xs ≡ []
dropped zero [] h = refl
dropped (suc i) [] h = refl
dropped zero (x ∷ xs) h = absurd (omega arith)
dropped (suc i) (x ∷ xs) h = dropped i xs (omega arith)

module _ (s : Switch) (entry : ℕ → ℕ → ℕ → ℕ → ℕ) (p : Prices) where
  pub queries_more : (qs : List TypedQuery) (i total now whole : ℕ) (q : TypedQuery) → drop i qs ≡ q ∷ drop (i + 1) qs → now ≡ total + least_query s entry p (record { query = i; typed = q })
      → total + least_queries s entry p i (drop i qs) ≡ whole → now + least_queries s entry p (i + 1) (drop (i + 1) qs) ≡ whole
  queries_more qs i total now whole q d e w = let a = ap (least_queries s entry p i) d in omega arith

  pub queries_done : (qs : List TypedQuery) (i total whole : ℕ) → length qs ≤ i → total + least_queries s entry p i (drop i qs) ≡ whole → total ≡ whole
  queries_done qs i total whole h w = let a = ap (least_queries s entry p i) (dropped i qs h) in omega arith

-- ---- ranges

range_at : {B : Type 0} (f : ℕ → B) (first n i : ℕ) (d : B) → i < n → get_or (map f (range_with_len first n)) i d ≡ f (first + i)
range_at f first zero i d h = absurd (omega arith)
range_at f first (suc n) zero d h = ap f (let z : first ≡ first + 0 = omega arith in z)
range_at f first (suc n) (suc i) d h = range_at f (first + 1) n i d (omega arith) ∙ ap f (let z : first + 1 + i ≡ first + suc i = omega arith in z)

range_count : {B : Type 0} (f : ℕ → B) (first n : ℕ) → length (map f (range_with_len first n)) ≡ n
range_count f first zero = refl
range_count f first (suc n) = ap suc (range_count f (first + 1) n)

-- what stands at a place of a list that is made of a range
pub ranged : {B : Type 0} (f : ℕ → B) (ys : List B) (n i : ℕ) (y : B) → ys ≡ map f (range_with_len 0 n) → i < length ys → y ≡ get_or ys i y → y ≡ f i
ranged f ys n i y e h a =
    let long = ap length e ∙ range_count f 0 n in
    a ∙ ap (λ l. get_or l i y) e ∙ range_at f 0 n i y (omega arith) ∙ ap f (let z : 0 + i ≡ i = omega arith in z)

pub ranged_count : {B : Type 0} (f : ℕ → B) (ys : List B) (n : ℕ) → ys ≡ map f (range_with_len 0 n) → length ys ≡ n
ranged_count f ys n e = ap length e ∙ range_count f 0 n
