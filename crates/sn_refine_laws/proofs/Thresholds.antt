-- What passes thresholds at a level passes them with a greater value at a coarser level.
use Rattle.std.proofs.Common.{◌≡◌, ℕ, ◌^◌, ◌<◌, ◌≤◌, List, [], ◌∷◌, ◌++◌, map, length, slice_index, Bool, true, ◌||◌, ◌&&◌, ◌==◌, nat_eq, nat_le, refl, ap, sym, ◌∙◌, arith}
use Rattle.std.specs.List.{list_any, list_all}
use Rattle.std.specs.Int.Bits.{bit_and}
use Rattle.std.proofs.Math.Nat.{mod-eq_of_lt}
use Rattle.std.proofs.Math.Pow.{pow_mono}
use Rattle.std.proofs.lemmas.Bool.{false≢true, leb-true, le-leb, lt-ltb, ltb-true}
use Rattle.std.proofs.lemmas.List.{get_or_at}
use Rattle.std.proofs.lemmas.Nat.{and_mask}
use Rattle.sn_base.proofs.Lists.{and_both, and_parts, by_test, nat_same}
use Rattle.sn_base.specs.AnyFold.{any_has}
use Rattle.sn_base.specs.Groups.{Row}
use Rattle.sn_base.specs.declared.any_fold.AnyFold.{AnyFold}
use Rattle.sn_base.specs.declared.any_fold.AnyFold.TheVariants.{SatSum, Max, Min, Or}
use Rattle.sn_query_grammar.specs.declared.ast.Cmp.{Cmp}
use Rattle.sn_query_grammar.specs.declared.ast.Cmp.TheVariants.{Eq, Ne, Lt, Le, Gt, Ge}
use Rattle.sn_types.specs.Values.{all_bits, compared, constant_at, greatest, holds, op_at}
use Rattle.sn_types.specs.declared.typed_op.TCond.{TCond}
use Rattle.sn_types.specs.declared.typed_op.TOp.{TOp}
use Rattle.sn_types.specs.declared.typed_op.TOp.TheVariants as ops
use Rattle.sn_refine_laws.specs.Masking.{AreThresholds, keeps_row}
use Rattle.sn_refine_laws.specs.Monotone.{are_thresholds, is_above, is_threshold}

-- a number of a fold has at most 64 bits
pub below_64 : (f : AnyFold) (w : ℕ) → any_has f w → w < 2 ^ 64
below_64 (SatSum f) w h = let more = pow_mono f.in_range.1 in omega (arith, h, more)
below_64 (Max f) w h = let more = pow_mono f.in_range.1 in omega (arith, h, more)
below_64 (Min f) w h = let more = pow_mono f.in_range.1 in omega (arith, h, more)
below_64 (Or f) w h = let more = pow_mono f.in_range.1 in omega (arith, h, more)

all_member : (t : ℕ → Bool) (n : ℕ) (ns : List ℕ) → list_all t ns ≡ true → list_any (nat_eq n) ns ≡ true → t n ≡ true
all_member t n [] all is = absurd (false≢true is)
all_member t n (x ∷ xs) all is =
    let parts = and_parts (t x) (list_all t xs) all in
    by_test (nat_eq n x)
    (λ here. ap t (nat_same n x here) ∙ parts.0)
    (λ isnt. all_member t n xs parts.1 (sym (ap (λ b. b || list_any (nat_eq n) xs) isnt) ∙ is))

-- a greater number compares so with a lesser constant
above_more : (cmp : Cmp) (v w c d : ℕ) → is_above cmp ≡ true → v ≤ w → d ≤ c → compared cmp v c ≡ true → compared cmp w d ≡ true
above_more Eq v w c d is more less h = absurd (false≢true is)
above_more Ne v w c d is more less h = absurd (false≢true is)
above_more Lt v w c d is more less h = absurd (false≢true is)
above_more Le v w c d is more less h = absurd (false≢true is)
above_more Gt v w c d is more less h = let lt = ltb-true c v h in lt-ltb d w (omega (arith, lt, more, less))
above_more Ge v w c d is more less h = let le = leb-true c v h in le-leb d w (omega (arith, le, more, less))

-- a number of 64 bits and-ed with all bits stays
kept : (a v : ℕ) → (a == all_bits) ≡ true → v < 2 ^ 64 → bit_and v a ≡ v
kept a v is lt = ap (bit_and v) (nat_same a all_bits is) ∙ and_mask v 128 ∙ mod-eq_of_lt (omega (arith, lt))

module _ (levels : List ℕ) (F r n : ℕ) (among : list_any (nat_eq r) levels ≡ true) (k l : Row) (v w : ℕ) (long : length k ≡ n) (long' : length l ≡ n) (more : v ≤ w) (small : w < 2 ^ 64) where
  cond_passes : (c : TCond) → is_threshold levels F n c ≡ true → holds F c (k ++ v ∷ []) ≡ true → holds r c (l ++ w ∷ []) ≡ true
  cond_passes c is h =
      let lesser : ℕ → Bool = λ level. nat_le (constant_at level c.relaxed c.own) (constant_at F c.relaxed c.own) in
      let a = and_parts (c.col == n) ((c.and == all_bits) && (is_above c.cmp && list_all lesser levels)) is in
      let b = and_parts (c.and == all_bits) (is_above c.cmp && list_all lesser levels) a.1 in
      let d = and_parts (is_above c.cmp) (list_all lesser levels) b.1 in
      let less : constant_at r c.relaxed c.own ≤ constant_at F c.relaxed c.own = leb-true (constant_at r c.relaxed c.own) (constant_at F c.relaxed c.own) (all_member lesser r levels d.1 among) in
      let col : c.col ≡ n = nat_same c.col n a.0 in
      let reads : (key : Row) (x : ℕ) → length key ≡ n → x < 2 ^ 64 → bit_and (slice_index (key ++ x ∷ []) c.col) c.and ≡ x =
      λ key x is lt. ap (λ i. bit_and (slice_index (key ++ x ∷ []) i) c.and) col ∙ ap (λ y. bit_and y c.and) (get_or_at key x [] 0 n is) ∙ kept c.and x b.0 lt in
      ap (λ x. compared c.cmp x (constant_at r c.relaxed c.own)) (reads l w long' small)
      ∙ above_more c.cmp v w (constant_at F c.relaxed c.own) (constant_at r c.relaxed c.own) d.0 more less
      (sym (ap (λ x. compared c.cmp x (constant_at F c.relaxed c.own)) (reads k v long (omega (arith, small, more)))) ∙ h)

  conds_pass : (conds : List TCond) → list_all (is_threshold levels F n) conds ≡ true → list_all (λ c. holds F c (k ++ v ∷ [])) conds ≡ true → list_all (λ c. holds r c (l ++ w ∷ [])) conds ≡ true
  conds_pass [] is h = refl
  conds_pass (c ∷ conds) is h =
      let a = and_parts (is_threshold levels F n c) (list_all (is_threshold levels F n) conds) is in
      let b = and_parts (holds F c (k ++ v ∷ [])) (list_all (λ x. holds F x (k ++ v ∷ [])) conds) h in
      and_both (holds r c (l ++ w ∷ [])) (list_all (λ x. holds r x (l ++ w ∷ [])) conds) (cond_passes c a.0 b.0) (conds_pass conds a.1 b.1)

  pub ops_pass : (os : List TOp) → are_thresholds levels F n os ≡ true → keeps_row (map (op_at F) os) (k ++ v ∷ []) ≡ true → keeps_row (map (op_at r) os) (l ++ w ∷ []) ≡ true
  ops_pass [] is h = refl
  ops_pass (ops.Filter conds ∷ os) is h =
      let a = and_parts (list_all (is_threshold levels F n) conds) (are_thresholds levels F n os) is in
      let b = and_parts (list_all (λ c. holds F c (k ++ v ∷ [])) conds) (keeps_row (map (op_at F) os) (k ++ v ∷ [])) h in
      and_both (list_all (λ c. holds r c (l ++ w ∷ [])) conds) (keeps_row (map (op_at r) os) (l ++ w ∷ [])) (conds_pass conds a.0 b.0) (ops_pass os a.1 b.1)
  ops_pass (ops.Map exprs ∷ os) is h = absurd (false≢true is)
  ops_pass (ops.Distinct ∷ os) is h = absurd (false≢true is)
  ops_pass (ops.Reduce d ∷ os) is h = absurd (false≢true is)

-- thresholds are filters
pub only_filters : (levels : List ℕ) (F n level : ℕ) (os : List TOp) → are_thresholds levels F n os ≡ true → AreThresholds (map (op_at level) os)
only_filters levels F n level [] is = tt
only_filters levels F n level (ops.Filter conds ∷ os) is = only_filters levels F n level os (and_parts (list_all (is_threshold levels F n) conds) (are_thresholds levels F n os) is).1
only_filters levels F n level (ops.Map exprs ∷ os) is = absurd (false≢true is)
only_filters levels F n level (ops.Distinct ∷ os) is = absurd (false≢true is)
only_filters levels F n level (ops.Reduce d ∷ os) is = absurd (false≢true is)
