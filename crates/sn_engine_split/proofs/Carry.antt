-- Operators that carry the column at a place carry each test of its number.
use Rattle.std.proofs.Common.{◌≡◌, ℕ, zero, suc, ◌+◌, ◌<◌, List, [], ◌∷◌, ◌++◌, map, take, length, Bool, true, not, ◌||◌, ◌==◌, cond, slice_index, unwrap_or, position, refl, ap, sym, ◌∙◌, subst, arith}
use Rattle.std.specs.List.{list_any, position_or_len}
use Rattle.std.proofs.lemmas.Bool.{false≢true}
use Rattle.sn_base.proofs.Lists.{by_test, nat_same}
use Rattle.sn_base.specs.Groups.{Row}
use Rattle.sn_types.specs.Values.{op_at, value_of}
use Rattle.sn_types.specs.declared.typed_op.TExpr.{TExpr}
use Rattle.sn_types.specs.declared.typed_op.TExpr.TheVariants.{Const, Copy, Mask, Shift, Sum, Ratio}
use Rattle.sn_types.specs.declared.typed_op.TOp.{TOp}
use Rattle.sn_types.specs.declared.typed_op.TOp.TheVariants as ops
use Rattle.sn_types.proofs.RowLemmas.{place_is}
use Rattle.sn_pipe_items.proofs.LeftLaw.{Carries, CarriesOne}
use Rattle.sn_types.proofs.Following.{AllHold, Holds}
use Rattle.sn_types.specs.Places.{copies, place_along, place_after}

-- ---- numbers at places

first_within : {X : Type 0} (t : X → Bool) (xs : List X) → list_any t xs ≡ true → position_or_len t xs < length xs
first_within t [] any = absurd (false≢true any)
first_within t (x ∷ xs) any =
    let P : Bool → Type 0 = λ b. cond (not b) (1 + position_or_len t xs) 0 < suc (length xs) in
    by_test (t x)
    (λ is. subst P (sym is) (omega arith))
    (λ isnt. let rest = first_within t xs (sym (ap (λ b. b || list_any t xs) isnt) ∙ any) in subst P (sym isnt) (omega (arith, rest)))

first_number : {X : Type 0} (t : X → Bool) (f : X → ℕ) (n : ℕ) → ((x : X) → t x ≡ true → f x ≡ n) → (xs : List X) → list_any t xs ≡ true → slice_index (map f xs) (position_or_len t xs) ≡ n
first_number t f n same [] any = absurd (false≢true any)
first_number t f n same (x ∷ xs) any =
    let k : ℕ = position_or_len t xs in
    let at : Bool → ℕ = λ b. slice_index (f x ∷ map f xs) (cond (not b) (1 + k) 0) in
    by_test (t x)
    (λ is. ap at is ∙ same x is)
    (λ isnt.
    let next : 1 + k ≡ suc k = omega arith in
    ap at isnt ∙ ap (slice_index (f x ∷ map f xs)) next ∙ first_number t f n same xs (sym (ap (λ b. b || list_any t xs) isnt) ∙ any))

-- the number that is made of the first that passes
pub number_found : {X : Type 0} (t : X → Bool) (f : X → ℕ) (n : ℕ) → ((x : X) → t x ≡ true → f x ≡ n) → (xs : List X) → list_any t xs ≡ true → slice_index (map f xs) (unwrap_or (position t xs) 0) ≡ n
number_found t f n same xs any = ap (slice_index (map f xs)) (place_is t xs any) ∙ first_number t f n same xs any

at_front : (key tail : Row) (n : ℕ) → n < length key → slice_index (key ++ tail) n ≡ slice_index key n
at_front [] tail n lt = absurd (omega (arith, lt))
at_front (x ∷ key) tail zero lt = refl
at_front (x ∷ key) tail (suc n) lt = at_front key tail n (omega (arith, lt))

at_taken : (m n : ℕ) (row : Row) → n < m → slice_index (take m row) n ≡ slice_index row n
at_taken zero n row lt = absurd (omega (arith, lt))
at_taken (suc m) n [] lt = refl
at_taken (suc m) zero (x ∷ row) lt = refl
at_taken (suc m) (suc n) (x ∷ row) lt = at_taken m n row (omega (arith, lt))

copied_number : (p : ℕ) (row : Row) (e : TExpr) → copies p e ≡ true → value_of e row ≡ slice_index row p
copied_number p row (Const n) is = absurd (false≢true is)
copied_number p row (Copy a) is = ap (slice_index row) (nat_same a p is)
copied_number p row (Mask a bits) is = absurd (false≢true is)
copied_number p row (Shift a k) is = absurd (false≢true is)
copied_number p row (Sum a b) is = absurd (false≢true is)
copied_number p row (Ratio a k b) is = absurd (false≢true is)

-- ---- tests

module _ (T : ℕ → Bool) (level : ℕ) where
  carry_one : (op : TOp) (p i : ℕ) (keeps : ℕ → Row → Bool) → Holds op p → ((row : Row) → keeps i row ≡ T (slice_index row p)) → ((row : Row) → keeps (suc i) row ≡ T (slice_index row (place_after op p))) → CarriesOne keeps i (op_at level op)
  carry_one (ops.Filter conds) p i keeps h here next = λ row. next row ∙ sym (here row)
  carry_one (ops.Map exprs) p i keeps h here next =
      λ row. next (map (λ e. value_of e row) exprs) ∙ ap T (number_found (copies p) (λ e. value_of e row) (slice_index row p) (copied_number p row) exprs h) ∙ sym (here row)
  carry_one ops.Distinct p i keeps h here next = λ row. next row ∙ sym (here row)
  carry_one (ops.Reduce r) p i keeps h here next =
      let q : ℕ = place_after (ops.Reduce r) p in
      let within : q < length r.keys = let e = place_is (λ (k : ℕ). k == p) r.keys h in let lt = first_within (λ (k : ℕ). k == p) r.keys h in omega (arith, e, lt) in
      record {
        key = λ k. T (slice_index k q);
        before = λ row. ap T (number_found (λ (k : ℕ). k == p) (λ place. slice_index row place) (slice_index row p) (λ k is. ap (slice_index row) (nat_same k p is)) r.keys h) ∙ sym (here row);
        following = λ k a long. next (k ++ a ∷ []) ∙ ap T (at_front k (a ∷ []) q (omega (arith, long, within)));
        in_parts = λ row long. next row ∙ ap T (sym (at_taken (length r.keys) q row within));
      }

  pub carry : (os : List TOp) (p i : ℕ) (keeps : ℕ → Row → Bool) → AllHold os p → ((j : ℕ) (row : Row) → keeps (i + j) row ≡ T (slice_index row (place_along (take j os) p))) → Carries keeps i (map (op_at level) os)
  carry [] p i keeps h same = tt
  carry (op ∷ os) p i keeps h same = (
    carry_one op p i keeps h.0 (λ row. ap (λ (n : ℕ). keeps n row) here ∙ same 0 row) (λ row. ap (λ (n : ℕ). keeps n row) next ∙ same 1 row),
    carry os (place_after op p) (suc i) keeps h.1 (λ j row. ap (λ (n : ℕ). keeps n row) (further j) ∙ same (suc j) row),
  )
    where
      here : i ≡ i + 0
      here = omega arith

      next : suc i ≡ i + 1
      next = omega arith

      further : (j : ℕ) → suc i + j ≡ i + suc j
      further j = omega arith

-- a test that is the same for all rows
constant_one : (b : Bool) (level i : ℕ) (op : TOp) (keeps : ℕ → Row → Bool) → ((j : ℕ) (row : Row) → keeps j row ≡ b) → CarriesOne keeps i (op_at level op)
constant_one b level i (ops.Filter conds) keeps same = λ row. same (suc i) row ∙ sym (same i row)
constant_one b level i (ops.Map exprs) keeps same = λ row. same (suc i) (map (λ e. value_of e row) exprs) ∙ sym (same i row)
constant_one b level i ops.Distinct keeps same = λ row. same (suc i) row ∙ sym (same i row)
constant_one b level i (ops.Reduce r) keeps same = record { key = λ k. b; before = λ row. sym (same i row); following = λ k a long. same (suc i) (k ++ a ∷ []); in_parts = λ row long. same (suc i) row }

pub constant : (b : Bool) (level i : ℕ) (os : List TOp) (keeps : ℕ → Row → Bool) → ((j : ℕ) (row : Row) → keeps j row ≡ b) → Carries keeps i (map (op_at level) os)
constant b level i [] keeps same = tt
constant b level i (op ∷ os) keeps same = (constant_one b level i op keeps same, constant b level (suc i) os keeps same)
