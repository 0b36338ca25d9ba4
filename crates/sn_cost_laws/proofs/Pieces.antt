-- The pieces that choices lead to are pieces of their queries.
use Rattle.std.proofs.Common.{◌≡◌, ℕ, zero, suc, ◌+◌, ◌*◌, ◌^◌, ◌≤◌, ◌<◌, List, [], ◌∷◌, ◌++◌, drop, length, slice_get, unwrap_or, Bool, true, false, Option, Some, refl, ap, sym, ◌∙◌, subst, arith, pow_pos}
use Rattle.std.specs.Prelude.{◌/◌, ◌%◌, ◌==◌, if◌then◌else◌}
use Rattle.std.specs.List.{AllByRecursion}
use Rattle.std.proofs.Math.Nat.{pow-suc}
use Rattle.std.proofs.Math.Pow.{pow_mono}
use Rattle.sn_base.proofs.Lists.{all_append, by_test, index_within}
use Rattle.sn_types.specs.declared.typed_query.TypedBranch.{TypedBranch}
use Rattle.sn_types.specs.declared.typed_query.TypedQuery.{TypedQuery}
use Rattle.sn_types.specs.Typed.{blank_branch, branch_of}
use Rattle.sn_plan_choices.specs.Planning.{PieceTask, level_pieces, path_pieces, pieces_of}
use Rattle.sn_cost.specs.Entries.{front_of}

-- ---- places

pub get_ahead : {X : Type 0} (xs : List X) (n : ℕ) (x : X) (rest : List X) → drop n xs ≡ x ∷ rest → slice_get xs n ≡ Some x
get_ahead [] zero x rest e = cc
get_ahead [] (suc n) x rest e = cc
get_ahead (y ∷ xs) zero x rest e = cc
get_ahead (y ∷ xs) (suc n) x rest e = get_ahead xs n x rest e

pub drop_more : {X : Type 0} (xs : List X) (n : ℕ) (x : X) (rest : List X) → drop n xs ≡ x ∷ rest → drop (suc n) xs ≡ rest
drop_more [] zero x rest e = cc
drop_more [] (suc n) x rest e = cc
drop_more (y ∷ xs) zero x rest e = cc
drop_more (y ∷ xs) (suc n) x rest e = drop_more xs n x rest e

next_place : (n : ℕ) → n + 1 ≡ suc n
next_place n = omega arith

-- ---- a number of some level leaves a front

some_half : (m : ℕ) → m % 2 ≡ 0 → 0 < m → 0 < m / 2
some_half m e h = omega (arith, e, h)

half_below : (m n k : ℕ) → m < n → n ≡ k * 2 → m / 2 < k
half_below m n k h e = omega (arith, h, e)

even_or_odd : (m : ℕ) → (m % 2 == 1) ≡ false → m % 2 ≡ 0
even_or_odd m e = by_rest (m % 2) (omega arith) e
  where
    by_rest : (r : ℕ) → r < 2 → (r == 1) ≡ false → r ≡ 0
    by_rest zero lt e = refl
    by_rest (suc zero) lt e = cc
    by_rest (suc (suc r)) lt e = absurd (omega (arith, lt))

pub front_some : (m : ℕ) (levels : List ℕ) → 0 < m → m < 2 ^ length levels → 0 < length (front_of m levels)
front_some m [] some below = absurd (omega (arith, some, below))
front_some m (l ∷ levels) some below =
    by_test (m % 2 == 1) (λ is. subst (λ (t : Bool). 0 < length (if t then l ∷ front_of (m / 2) levels else front_of (m / 2) levels)) (sym is) (omega arith))
    (λ isnt.
    let even = even_or_odd m isnt in
    let rest = front_some (m / 2) levels (some_half m even some) (half_below m (2 ^ length (l ∷ levels)) (2 ^ length levels) below (pow-suc 2 (length levels))) in
    subst (λ (t : Bool). 0 < length (if t then l ∷ front_of (m / 2) levels else front_of (m / 2) levels)) (sym isnt) rest)

-- ---- the pieces of a path

-- of this query: the levels up to one of its own, and a branch with its number
pub record IsPieceOf (query : ℕ) (typed : TypedQuery) (t : PieceTask) : Type 0 where
  pub of_query : t.query ≡ query
  pub some : 0 < t.levels
  pub below : t.levels < 2 ^ length typed.levels
  pub of_number : t.number < length typed.branches
  pub of_branch : t.branch ≡ branch_of typed t.number

module _ (query : ℕ) (typed : TypedQuery) where
  level_is : (levels : ℕ) (first : Bool) (n : ℕ) (bs : List TypedBranch) → 0 < levels → levels < 2 ^ length typed.levels → drop n typed.branches ≡ bs
      → AllByRecursion (IsPieceOf query typed) (level_pieces query levels first n bs)
  level_is levels first n [] some below at = tt
  level_is levels first n (b ∷ bs) some below at =
      let here = get_ahead typed.branches n b bs at in
      let rest = ap (λ (k : ℕ). drop k typed.branches) (next_place n) ∙ drop_more typed.branches n b bs at in (
        record {
          of_query = refl;
          some = some;
          below = below;
          of_number = index_within typed.branches n b here;
          of_branch = sym (ap (λ (o : Option TypedBranch). unwrap_or o blank_branch) here);
        },
        level_is levels first (n + 1) bs some below rest,
      )

  next_bit : (i before : ℕ) → before < 2 ^ i → before + 2 ^ i < 2 ^ (i + 1)
  next_bit i before h = let two = ap (λ (k : ℕ). 2 ^ k) (next_place i) ∙ pow-suc 2 i in omega (arith, h, two)

  bits_fit : (i before : ℕ) → before < 2 ^ i → i + 1 ≤ length typed.levels → before + 2 ^ i < 2 ^ length typed.levels
  bits_fit i before h fit = let one = next_bit i before h in let all : 2 ^ (i + 1) ≤ 2 ^ length typed.levels = pow_mono fit in omega (arith, one, all)

  some_bit : (i before : ℕ) → 0 < before + 2 ^ i
  some_bit i before = let one = pow_pos i in omega (arith, one)

  path_is : (m i before : ℕ) (ls : List ℕ) → before < 2 ^ i → i + length ls ≤ length typed.levels → AllByRecursion (IsPieceOf query typed) (path_pieces query typed.branches m i before ls)
  path_is m i before [] small fit = tt
  path_is m i before (l ∷ []) small fit =
      level_is (before + 2 ^ i) (before == 0) 0 typed.branches (some_bit i before) (bits_fit i before small (omega (arith, fit))) refl
  path_is m i before (l ∷ k ∷ ls) small fit =
      let later : i + 1 + length (k ∷ ls) ≤ length typed.levels = omega (arith, fit) in
      let here = level_is (before + 2 ^ i) (before == 0) 0 typed.branches (some_bit i before) (bits_fit i before small (omega (arith, fit))) refl in
      let on = path_is (m / 2) (i + 1) (before + 2 ^ i) (k ∷ ls) (next_bit i before small) later in
      let past = path_is (m / 2) (i + 1) before (k ∷ ls) (let one = next_bit i before small in omega (arith, one)) later in
      let own : List PieceTask = level_pieces query (before + 2 ^ i) (before == 0) 0 typed.branches in
      let following : List PieceTask = path_pieces query typed.branches (m / 2) (i + 1) (before + 2 ^ i) (k ∷ ls) in
      by_bit (m % 2 == 1) (own ++ following) (path_pieces query typed.branches (m / 2) (i + 1) before (k ∷ ls)) (all_append (IsPieceOf query typed) own following here on) past
    where
      by_bit : (t : Bool) (xs ys : List PieceTask) → AllByRecursion (IsPieceOf query typed) xs → AllByRecursion (IsPieceOf query typed) ys → AllByRecursion (IsPieceOf query typed) (if t then xs else ys)
      by_bit true xs ys a b = a
      by_bit false xs ys a b = b

  pub pieces_are : (m : ℕ) → AllByRecursion (IsPieceOf query typed) (pieces_of (record { query = query; typed = typed }) m)
  pieces_are m = path_is m 0 0 typed.levels (omega arith) (omega arith)
