-- Blocks of a column.
use Rattle.std.proofs.Common.{◌≡◌, ℕ, suc, ◌-◌, ◌+◌, ◌^◌, ◌<◌, ◌≤◌, List, [], ◌∷◌, ◌++◌, length, take, drop, length-drop, map, bit_and, get_or, replicate, refl, ap, sym, ◌∙◌, arith}
use Rattle.std.specs.Simd.Lanes.{zip2}
use Rattle.std.proofs.Math.Nat.{mod-eq_of_lt}
use Rattle.std.proofs.lemmas.Nat.{and_assoc}
use Rattle.std.proofs.lemmas.Grind.{and_numeral, bit_length, numeral_and}
use Rattle.std.proofs.lemmas.List.{take_all}
use Rattle.std.proofs.lemmas.Simd.{zip2_splat}
use Rattle.sn_query_grammar.specs.declared.ast.Cmp.{Cmp}
use Rattle.sn_types.specs.Values.{compared}
use Rattle.sn_lanes_narrow.specs.Marks.{mark, number_mark}
use mir.Val.{Fits, bits}
use mir.Syntax.{Width}
use Rattle.std.proofs.lemmas.List.{map-append, length-take-le}
use Rattle.std.proofs.lemmas.Slice.{take-put_mid}
use Rattle.std.proofs.Math.Seq.{take-add}
use borrow.Rule.Slice.PartMut.{put_mid}
use Rattle.sn_lanes.proofs.LaneLemmas.{length_flags, map_map}

-- one block more of a column
pub block_step : {X : Type 0} (f : X → ℕ) (col : List X) (out new : List ℕ) (at : ℕ) → at + 16 ≤ length col → length out ≡ length col → take at out ≡ map f (take at col) → new ≡ map f (take (at + 16 - at) (drop at col))
    → take (at + 16) (put_mid at (at + 16 - at) out new) ≡ map f (take (at + 16) col)
block_step f col out new at room long done is =
    let whole : at + 16 - at ≡ 16 = omega arith in
    let block : new ≡ map f (take 16 (drop at col)) = is ∙ ap (λ n. map f (take n (drop at col))) whole in
    let count : length new ≡ 16 = ap length block ∙ length_flags f (take 16 (drop at col)) ∙ length-take-le 16 (drop at col) (omega (arith, length-drop at col)) in
    take-put_mid at (at + 16 - at) out new (at + 16) (omega arith) (omega arith)
    ∙ ap (λ ys. ys ++ new) done ∙ ap (λ ys. map f (take at col) ++ ys) block
    ∙ sym (ap (map f) (take-add at 16 col) ∙ map-append f (take at col) (take 16 (drop at col)))

-- of a number of a width the lowest bits of another one are what it can be and-ed with
low_bits : (m x and : ℕ) → suc m + 1 ≡ 2 ^ bit_length 128 (suc m) → x < suc m + 1 → bit_and x (bit_and and (suc m)) ≡ bit_and x and
low_bits m x and ones fits =
    ap (bit_and x) (and_numeral and m ones ∙ sym (numeral_and m and ones))
    ∙ sym (and_assoc and x (suc m))
    ∙ ap (λ y. bit_and y and) (and_numeral x m ones ∙ mod-eq_of_lt fits)

low_marks : (w : Width) (m : ℕ) (cmp : Cmp) (and constant : ℕ) (xs : List ℕ) → suc m + 1 ≡ 2 ^ bit_length 128 (suc m) → 2 ^ bits w ≡ suc m + 1 → ((k : ℕ) → Fits w (get_or xs k 0))
    → map (number_mark cmp (bit_and and (suc m)) constant) xs ≡ map (number_mark cmp and constant) xs
low_marks w m cmp and constant [] ones wide fit = refl
low_marks w m cmp and constant (x ∷ xs) ones wide fit =
    let low : x < 2 ^ bits w = (fit 0).fits in
    ap (λ n. mark (compared cmp n constant) ∷ map (number_mark cmp (bit_and and (suc m)) constant) xs) (low_bits m x and ones (omega (arith, low, wide)))
    ∙ ap (λ ys. number_mark cmp and constant x ∷ ys) (low_marks w m cmp and constant xs ones wide (λ k. fit (suc k)))

pub masked_block : (block : List ℕ) (and : ℕ) → length block ≡ 16 → zip2 bit_and (take 16 block) (replicate 16 and) ≡ map (λ x. bit_and x and) block
masked_block block and long = ap (λ xs. zip2 bit_and xs (replicate 16 and)) (take_all 16 block (omega (arith, long))) ∙ zip2_splat bit_and block 16 and long

pub masked_long : (block : List ℕ) (and : ℕ) → length block ≡ 16 → length (zip2 bit_and (take 16 block) (replicate 16 and)) ≡ 16
masked_long block and long = ap length (masked_block block and long) ∙ length_flags (λ x. bit_and x and) block ∙ long

-- the marks of a block whose numbers have a width
pub block_marks : (w : Width) (m : ℕ) (cmp : Cmp) (and constant : ℕ) (block : List ℕ) → suc m + 1 ≡ 2 ^ bit_length 128 (suc m) → 2 ^ bits w ≡ suc m + 1 → length block ≡ 16 → ((k : ℕ) → Fits w (get_or block k 0))
    → zip2 (λ a b. mark (compared cmp a b)) (zip2 bit_and (take 16 block) (replicate 16 (bit_and and (suc m)))) (replicate 16 constant) ≡ map (number_mark cmp and constant) block
block_marks w m cmp and constant block ones wide long fit =
    let low : ℕ = bit_and and (suc m) in
    let Made : List ℕ → List ℕ = λ xs. zip2 (λ a b. mark (compared cmp a b)) xs (replicate 16 constant) in
    ap Made (masked_block block low long)
    ∙ zip2_splat (λ a b. mark (compared cmp a b)) (map (λ x. bit_and x low) block) 16 constant (length_flags (λ x. bit_and x low) block ∙ long)
    ∙ map_map (λ y. mark (compared cmp y constant)) (λ x. bit_and x low) block
    ∙ low_marks w m cmp and constant block ones wide fit
