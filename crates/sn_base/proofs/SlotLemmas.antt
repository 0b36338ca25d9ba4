-- The bytes of a column, four and four.
use Rattle.std.proofs.Common.{◌≡◌, ℕ, ◌+◌, ◌*◌, ◌/◌, ◌%◌, ◌^◌, ◌<◌, ◌≤◌, List, [], ◌∷◌, ◌++◌, fold, length, take, slice_index, append-nil, cond, refl, ap, ap₂, sym, ◌∙◌, arith}
use Rattle.std.specs.Int.{to_le_bytes, w32, w64, w128}
use Rattle.std.specs.Int.Bits.{bit_xor, xor_zero_r}
use Rattle.std.proofs.Math.Nat.{mod-eq_of_lt}
use Rattle.std.proofs.lemmas.Bool.{lt-ltb, le-ltb}
use Rattle.std.proofs.lemmas.Nat.{mul-mod_first, mul-mod_second}
use Rattle.std.specs.List.{flat_map}
use Rattle.std.proofs.lemmas.List.{take_more}
use Rattle.std.proofs.lemmas.List.Sums.{fold-append}
use Rattle.std.proofs.lemmas.Grind.{flat_map-append}
use Rattle.sn_base.specs.Slot.{column_bytes, fnv_step, row_hash}

pub four_and_four : (n : ℕ) → to_le_bytes w64 n ≡ to_le_bytes w32 (n % 2 ^ 32) ++ to_le_bytes w32 (n / 2 ^ 32)
four_and_four n =
    ap₂ (λ a xs. a ∷ xs) (omega arith)
    (ap₂ (λ a xs. a ∷ xs) (omega arith)
    (ap₂ (λ a xs. a ∷ xs) (omega arith)
    (ap₂ (λ a xs. a ∷ xs) (omega arith)
    (ap₂ (λ a xs. a ∷ xs) (omega arith)
    (ap₂ (λ a xs. a ∷ xs) (omega arith)
    (ap₂ (λ a xs. a ∷ xs) (omega arith)
    (ap₂ (λ a xs. a ∷ xs) (omega arith) refl)))))))

-- a byte of 0 is a multiplication alone
mixed_zero : (hash : ℕ) → fnv_step hash 0 ≡ hash * 1099511628211 % 2 ^ 64
mixed_zero hash = ap (λ h. h * 1099511628211 % 2 ^ 64) (xor_zero_r hash)

once_more : (product hash : ℕ) → hash ≡ product % 2 ^ 64 → fnv_step hash 0 ≡ product * 1099511628211 % 2 ^ 64
once_more product hash is = mixed_zero hash ∙ ap (λ h. h * 1099511628211 % 2 ^ 64) is ∙ mul-mod_first product 1099511628211 (2 ^ 64)

pub four_zeros : (hash : ℕ) → fold fnv_step hash (to_le_bytes w32 0) ≡ hash * 11527715348014283921 % 2 ^ 64
four_zeros hash =
    once_more (hash * 1099511628211 * 1099511628211 * 1099511628211) (fnv_step (fnv_step (fnv_step hash 0) 0) 0)
    (once_more (hash * 1099511628211 * 1099511628211) (fnv_step (fnv_step hash 0) 0) (once_more (hash * 1099511628211) (fnv_step hash 0) (mixed_zero hash)))
    ∙ ap (λ n. n % 2 ^ 64) (omega arith)
    ∙ sym (mul-mod_second hash 1461501639643759632241992381230392390794884791441 (2 ^ 64))

pub low_then_high : (hash low high column : ℕ) → low ≡ column % 2 ^ 32 → high ≡ column / 2 ^ 32 → fold fnv_step (fold fnv_step hash (to_le_bytes w32 low)) (to_le_bytes w32 high) ≡ fold fnv_step hash (to_le_bytes w64 column)
low_then_high hash low high column is_low is_high =
    ap₂ (λ a b. fold fnv_step (fold fnv_step hash (to_le_bytes w32 a)) (to_le_bytes w32 b)) is_low is_high
    ∙ sym (ap (fold fnv_step hash) (four_and_four column))

pub low_alone : (hash low high column : ℕ) → low ≡ column % 2 ^ 32 → high ≡ column / 2 ^ 32 → high ≡ 0 → fold fnv_step hash (to_le_bytes w32 low) * 11527715348014283921 % 2 ^ 64 ≡ fold fnv_step hash (to_le_bytes w64 column)
low_alone hash low high column is_low is_high none =
    sym (four_zeros (fold fnv_step hash (to_le_bytes w32 low)))
    ∙ sym (ap (λ b. fold fnv_step (fold fnv_step hash (to_le_bytes w32 low)) (to_le_bytes w32 b)) none)
    ∙ low_then_high hash low high column is_low is_high

-- ---- the bytes of a wide column, eight and eight

pub eight_and_eight : (n : ℕ) → to_le_bytes w128 n ≡ to_le_bytes w64 (n % 2 ^ 64) ++ to_le_bytes w64 (n / 2 ^ 64)
eight_and_eight n =
    ap₂ (λ a xs. a ∷ xs) (omega arith)
    (ap₂ (λ a xs. a ∷ xs) (omega arith)
    (ap₂ (λ a xs. a ∷ xs) (omega arith)
    (ap₂ (λ a xs. a ∷ xs) (omega arith)
    (ap₂ (λ a xs. a ∷ xs) (omega arith)
    (ap₂ (λ a xs. a ∷ xs) (omega arith)
    (ap₂ (λ a xs. a ∷ xs) (omega arith)
    (ap₂ (λ a xs. a ∷ xs) (omega arith)
    (ap₂ (λ a xs. a ∷ xs) (omega arith)
    (ap₂ (λ a xs. a ∷ xs) (omega arith)
    (ap₂ (λ a xs. a ∷ xs) (omega arith)
    (ap₂ (λ a xs. a ∷ xs) (omega arith)
    (ap₂ (λ a xs. a ∷ xs) (omega arith)
    (ap₂ (λ a xs. a ∷ xs) (omega arith)
    (ap₂ (λ a xs. a ∷ xs) (omega arith)
    (ap₂ (λ a xs. a ∷ xs) (omega arith) refl)))))))))))))))

-- a column below 2^64 is its lower half
pub lower_alone : (hash column : ℕ) → column / 2 ^ 64 ≡ 0 → fold fnv_step hash (to_le_bytes w64 (column % 2 ^ 64)) ≡ fold fnv_step hash (column_bytes column)
lower_alone hash column none =
    let small : column < 2 ^ 64 = omega arith in
    ap (λ n. fold fnv_step hash (to_le_bytes w64 n)) (mod-eq_of_lt small)
    ∙ sym (ap (λ b. fold fnv_step hash (cond b (to_le_bytes w64 column) (to_le_bytes w128 column))) (lt-ltb column (2 ^ 64) small))

-- another one is both halves, one after the other
pub lower_then_upper : (hash column : ℕ) → (column / 2 ^ 64 ≡ 0 → ⊥) → fold fnv_step (fold fnv_step hash (to_le_bytes w64 (column % 2 ^ 64))) (to_le_bytes w64 (column / 2 ^ 64)) ≡ fold fnv_step hash (column_bytes column)
lower_then_upper hash column some =
    let wide : 2 ^ 64 ≤ column = omega (arith, some) in
    sym (ap (fold fnv_step hash) (eight_and_eight column))
    ∙ sym (ap (λ b. fold fnv_step hash (cond b (to_le_bytes w64 column) (to_le_bytes w128 column))) (le-ltb column (2 ^ 64) wide))

-- ---- the hash of one column more

pub hash_one_more : (index place column : ℕ) (row : List ℕ) → place < length row → column ≡ slice_index row place
    → fold fnv_step (row_hash index (take place row)) (column_bytes column) ≡ row_hash index (take (place + 1) row)
hash_one_more index place column row within is =
    let front = take place row in
    let own = slice_index row place in
    let first = bit_xor 14695981039346656037 index in
    let all : row_hash index (take (place + 1) row) ≡ fold fnv_step (row_hash index front) (column_bytes own ++ []) =
    ap (row_hash index) (take_more row place 0 within)
    ∙ ap (fold fnv_step first) (flat_map-append column_bytes front (own ∷ []))
    ∙ fold-append fnv_step first (flat_map column_bytes front) (column_bytes own ++ []) in
    ap (λ c. fold fnv_step (row_hash index front) (column_bytes c)) is
    ∙ sym (all ∙ ap (fold fnv_step (row_hash index front)) (append-nil (column_bytes own)))
