-- A front is the front without its last level, and that level.
use Rattle.std.proofs.Common.{◌≡◌, ℕ, zero, suc, ◌+◌, ◌-◌, ◌*◌, ◌<◌, ◌≤◌, ◌^◌, ◌/◌, ◌%◌, List, [], ◌∷◌, ◌++◌, length, length-append, Bool, true, false, cond, slice_index, refl, ap, sym, ◌∙◌, subst, arith}
use Rattle.std.specs.Prelude.{◌==◌}
use Rattle.std.specs.Option.{option_map}
use Rattle.std.proofs.Math.Nat.{pow-suc}
use Rattle.std.proofs.Math.Pow.{pow_mono}
use Rattle.std.proofs.lemmas.Bool.{eqb-false}
use Rattle.sn_base.proofs.Lists.{by_test}
use Rattle.sn_base.proofs.Tests.{by_order}
use Rattle.sn_refine.specs.Refined.{Windows, answered, before, level_rows, refined_rows}
use Rattle.sn_base.specs.Groups.{Row}
use Rattle.sn_types.specs.declared.typed_query.TypedQuery.{TypedQuery}
use Rattle.sn_cost.specs.Entries.{front_of}

-- ---- numbers of fronts

pub front_none : (levels : List ℕ) → front_of 0 levels ≡ []
front_none [] = refl
front_none (level ∷ levels) = front_none levels

-- the front of a number is that of the number without its highest bit, and the level of that bit
pub front_more : (top below : ℕ) (levels : List ℕ) → top < length levels → below < 2 ^ top → front_of (2 ^ top + below) levels ≡ front_of below levels ++ slice_index levels top ∷ []
front_more top below [] lt small = absurd (omega (arith, lt))
front_more zero below (level ∷ levels) lt small =
    let none : below ≡ 0 = omega (arith, small) in
    ap (λ n. front_of (1 + n) (level ∷ levels)) none ∙ ap (λ xs. level ∷ xs) (front_none levels)
    ∙ sym (ap (λ n. front_of n (level ∷ levels) ++ level ∷ []) none ∙ ap (λ xs. xs ++ level ∷ []) (front_none levels))
front_more (suc top) below (level ∷ levels) lt small =
    let two : 2 ^ suc top ≡ 2 ^ top * 2 = pow-suc 2 top in
    let bit : (2 ^ suc top + below) % 2 ≡ below % 2 = omega (arith, two) in
    let half : (2 ^ suc top + below) / 2 ≡ 2 ^ top + below / 2 = omega (arith, two) in
    let rest : front_of (2 ^ top + below / 2) levels ≡ front_of (below / 2) levels ++ slice_index levels top ∷ [] = front_more top (below / 2) levels (omega (arith, lt)) (omega (arith, two, small)) in
    let whole : ℕ → List ℕ → List ℕ = λ b xs. cond (b == 1) (level ∷ xs) xs in
    ap (λ b. whole b (front_of ((2 ^ suc top + below) / 2) levels)) bit ∙ ap (λ n. whole (below % 2) (front_of n levels)) half ∙ ap (whole (below % 2)) rest
    ∙ by_bit (below % 2 == 1) (front_of (below / 2) levels) (slice_index levels top)
  where
    by_bit : (b : Bool) (xs : List ℕ) (x : ℕ) → cond b (level ∷ (xs ++ x ∷ [])) (xs ++ x ∷ []) ≡ cond b (level ∷ xs) xs ++ x ∷ []
    by_bit true xs x = refl
    by_bit false xs x = refl

-- a front of some bit has a level
pub some_level : (m : ℕ) (levels : List ℕ) → 0 < m → m < 2 ^ length levels → 0 < length (front_of m levels)
some_level m [] some lt = absurd (omega (arith, some, lt))
some_level m (level ∷ levels) some lt =
    let two : 2 ^ suc (length levels) ≡ 2 ^ length levels * 2 = pow-suc 2 (length levels) in
    let rest : List ℕ = front_of (m / 2) levels in
    by_test (m % 2 == 1)
    (λ is. subst (λ b. 0 < length (cond b (level ∷ rest) rest)) (sym is) (omega arith))
    (λ isnt. let odd = eqb-false (m % 2) 1 isnt in subst (λ b. 0 < length (cond b (level ∷ rest) rest)) (sym isnt) (some_level (m / 2) levels (omega (arith, odd, some)) (omega (arith, two, lt))))

-- the highest bit of a number of a front is one of a level
pub top_within : (top m count : ℕ) → 2 ^ top ≤ m → m < 2 ^ count → top < count
top_within top m count le lt = by_order top count (λ less. less) (λ more. let most : 2 ^ count ≤ 2 ^ top = pow_mono more in absurd (omega (arith, most, le, lt)))

-- ---- lists with one more element

pub before_end : (xs : List ℕ) (x j : ℕ) → j < length xs → slice_index (xs ++ x ∷ []) j ≡ slice_index xs j
before_end [] x j lt = absurd (omega (arith, lt))
before_end (y ∷ xs) x zero lt = refl
before_end (y ∷ xs) x (suc j) lt = before_end xs x j (omega (arith, lt))

pub at_end : (xs : List ℕ) (x : ℕ) → slice_index (xs ++ x ∷ []) (length xs) ≡ x
at_end [] x = refl
at_end (y ∷ xs) x = at_end xs x

pub one_longer : (xs : List ℕ) (x : ℕ) → length (xs ++ x ∷ []) ≡ suc (length xs)
one_longer xs x = let e = length-append xs (x ∷ []) in omega (arith, e)

-- the last element of a list with one more
pub last_is : (xs : List ℕ) (x : ℕ) → slice_index (xs ++ x ∷ []) (length (xs ++ x ∷ []) - 1) ≡ x
last_is xs x = let e = one_longer xs x in let place : length (xs ++ x ∷ []) - 1 ≡ length xs = omega (arith, e) in ap (slice_index (xs ++ x ∷ [])) place ∙ at_end xs x

-- ---- a front and its number's highest bit

module _ (m top : ℕ) (levels : List ℕ) (low : 2 ^ top ≤ m) (high : m < 2 * 2 ^ top) (within : m < 2 ^ length levels) where
  pub top_lt : top < length levels
  top_lt = top_within top m (length levels) low within

  pub rest_lt : m - 2 ^ top < 2 ^ top
  rest_lt = omega (arith, low, high)

  pub front_is : front_of m levels ≡ front_of (m - 2 ^ top) levels ++ slice_index levels top ∷ []
  front_is = let e : 2 ^ top + (m - 2 ^ top) ≡ m = omega (arith, low) in subst (λ n. front_of n levels ≡ front_of (m - 2 ^ top) levels ++ slice_index levels top ∷ []) e (front_more top (m - 2 ^ top) levels top_lt rest_lt)

  pub front_long : length (front_of m levels) ≡ suc (length (front_of (m - 2 ^ top) levels))
  front_long = ap length front_is ∙ one_longer (front_of (m - 2 ^ top) levels) (slice_index levels top)

  pub front_last : slice_index (front_of m levels) (length (front_of m levels) - 1) ≡ slice_index levels top
  front_last = ap (λ xs. slice_index xs (length xs - 1)) front_is ∙ last_is (front_of (m - 2 ^ top) levels) (slice_index levels top)

-- ---- answers along a path with one more level

before_same : (f g : ℕ → List Row) → ((v : ℕ) → f v ≡ g v) → (w : ℕ) → before f w ≡ before g w
before_same f g e zero = refl
before_same f g e (suc w) = e w

module _ (query : TypedQuery) (windows : Windows) (path : List ℕ) (level : ℕ) where
  abbrev longer : List ℕ
  longer = path ++ level ∷ []

  pub rows_along : (j w : ℕ) → j < length path → refined_rows query windows longer j w ≡ refined_rows query windows path j w
  rows_along zero w lt = ap (λ bits. level_rows query bits (windows w)) (before_end path level zero lt)
  rows_along (suc j) w lt =
      let lower : j < length path = omega (arith, lt) in
      ap (λ bits. level_rows query bits (option_map (answered query (slice_index longer j) (before (refined_rows query windows longer j) w)) (windows w))) (before_end path level (suc j) lt)
      ∙ ap (λ bits. level_rows query (slice_index path (suc j)) (option_map (answered query bits (before (refined_rows query windows longer j) w)) (windows w))) (before_end path level j lower)
      ∙ ap (λ (rows : List Row). level_rows query (slice_index path (suc j)) (option_map (answered query (slice_index path j) rows) (windows w)))
      (before_same (refined_rows query windows longer j) (refined_rows query windows path j) (λ v. rows_along j v lower) w)
