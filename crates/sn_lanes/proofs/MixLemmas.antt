-- Hashes in lanes.
use Rattle.std.proofs.Common.{◌≡◌, ℕ, suc, zero, ◌+◌, ◌*◌, ◌/◌, ◌%◌, ◌^◌, List, [], ◌∷◌, ◌++◌, length, map, fold, bit_and, bit_xor, replicate, refl, ap, sym, ◌∙◌, arith}
use Rattle.std.specs.Simd.Lanes.{zip2}
use Rattle.std.specs.Int.{byte_at, bytes_low_first}
use Rattle.std.proofs.lemmas.Simd.{zip2_splat, length-zip2}
use Rattle.std.proofs.lemmas.Nat.{and_mask, pow-add}
use Rattle.std.proofs.Math.Nat.{pow-suc}
use Rattle.std.proofs.lemmas.List.Sums.{fold-append}
use Rattle.sn_base.specs.Slot.{fnv_step}
use Rattle.sn_lanes.proofs.LaneLemmas.{length_flags, map_map}

zip2_right : {A B C D : Type 0} (f : A → C → D) (g : B → C) (hs : List A) (xs : List B) → zip2 f hs (map g xs) ≡ zip2 (λ h x. f h (g x)) hs xs
zip2_right f g [] xs = refl
zip2_right f g (h ∷ hs) [] = refl
zip2_right f g (h ∷ hs) (x ∷ xs) = ap (λ ys. f h (g x) ∷ ys) (zip2_right f g hs xs)

pub map_zip2 : {A B C D : Type 0} (f : C → D) (g : A → B → C) (hs : List A) (xs : List B) → map f (zip2 g hs xs) ≡ zip2 (λ h x. f (g h x)) hs xs
map_zip2 f g [] xs = refl
map_zip2 f g (h ∷ hs) [] = refl
map_zip2 f g (h ∷ hs) (x ∷ xs) = ap (λ ys. f (g h x) ∷ ys) (map_zip2 f g hs xs)

-- a second pass over the same right side
pub zip2_again : {A B C D : Type 0} (f : C → B → D) (g : A → B → C) (hs : List A) (xs : List B) → zip2 f (zip2 g hs xs) xs ≡ zip2 (λ h x. f (g h x) x) hs xs
zip2_again f g [] xs = refl
zip2_again f g (h ∷ hs) [] = refl
zip2_again f g (h ∷ hs) (x ∷ xs) = ap (λ ys. f (g h x) x ∷ ys) (zip2_again f g hs xs)

pub zip2_same : {A B C : Type 0} (f g : A → B → C) → ((a : A) (b : B) → f a b ≡ g a b) → (hs : List A) (xs : List B) → zip2 f hs xs ≡ zip2 g hs xs
zip2_same f g e [] xs = refl
zip2_same f g e (h ∷ hs) [] = refl
zip2_same f g e (h ∷ hs) (x ∷ xs) = ap (λ y. y ∷ zip2 f hs xs) (e h x) ∙ ap (λ ys. g h x ∷ ys) (zip2_same f g e hs xs)

eight_more : (k : ℕ) → 8 * suc k ≡ 8 * k + 8
eight_more k = omega arith

eights : (k : ℕ) → 2 ^ (8 * k) ≡ 256 ^ k
eights zero = refl
eights (suc k) = ap (λ n. 2 ^ n) (eight_more k) ∙ pow-add 2 (8 * k) 8 ∙ ap (λ p. p * 256) (eights k) ∙ sym (pow-suc 256 k)

div_one : (x : ℕ) → x / 256 ^ 0 ≡ x
div_one x = omega arith

whole_byte : (k x : ℕ) → x / 256 ^ k % 256 ≡ byte_at k x
whole_byte zero x = ap (λ y. y % 256) (div_one x)
whole_byte (suc k) x = refl

-- the byte of a number, as a shift and a mask give it
byte_is : (k x : ℕ) → bit_and (x / 2 ^ (8 * k)) 255 ≡ byte_at k x
byte_is k x = and_mask (x / 2 ^ (8 * k)) 8 ∙ ap (λ p. x / p % 256) (eights k) ∙ whole_byte k x

pub mixed_is : (hash column : List ℕ) (k : ℕ) → length hash ≡ 8 → length column ≡ 8 →
    map (λ h. h * 1099511628211 % 2 ^ 64) (zip2 bit_xor hash (zip2 bit_and (zip2 (λ x s. x / 2 ^ s) column (replicate 8 (8 * k))) (replicate 8 255))) ≡ zip2 (λ h x. fnv_step h (byte_at k x)) hash column
mixed_is hash column k eight also =
    let shifted = zip2_splat (λ (x s : ℕ). x / 2 ^ s) column 8 (8 * k) also in
    let part : zip2 bit_and (zip2 (λ x s. x / 2 ^ s) column (replicate 8 (8 * k))) (replicate 8 255) ≡ map (λ x. bit_and (x / 2 ^ (8 * k)) 255) column =
    ap (λ xs. zip2 bit_and xs (replicate 8 255)) shifted
    ∙ zip2_splat bit_and (map (λ (x : ℕ). x / 2 ^ (8 * k)) column) 8 255 (length_flags (λ (x : ℕ). x / 2 ^ (8 * k)) column ∙ also)
    ∙ map_map (λ (x : ℕ). bit_and x 255) (λ (x : ℕ). x / 2 ^ (8 * k)) column in
    let mix : ℕ → ℕ → ℕ = λ h x. bit_xor h (bit_and (x / 2 ^ (8 * k)) 255) in
    let times : ℕ → ℕ = λ h. h * 1099511628211 % 2 ^ 64 in
    ap (λ xs. map times (zip2 bit_xor hash xs)) part
    ∙ ap (map times) (zip2_right bit_xor (λ (x : ℕ). bit_and (x / 2 ^ (8 * k)) 255) hash column)
    ∙ map_zip2 times mix hash column
    ∙ zip2_same (λ h x. times (mix h x)) (λ h x. fnv_step h (byte_at k x)) (λ h x. ap (fnv_step h) (byte_is k x)) hash column

-- a byte of each column, put into its hash, is as many lanes
pub mixed_long : (hash column : List ℕ) (k : ℕ) → length hash ≡ 8 → length column ≡ 8 → length (zip2 bit_xor hash (zip2 bit_and (zip2 (λ x s. x / 2 ^ s) column (replicate 8 (8 * k))) (replicate 8 255))) ≡ 8
mixed_long hash column k eight also =
    let shift : ℕ → ℕ → ℕ = λ x s. x / 2 ^ s in
    let shifted = zip2 shift column (replicate 8 (8 * k)) in
    let shift_long : length shifted ≡ 8 = length-zip2 shift column (replicate 8 (8 * k)) also ∙ also in
    let part_long : length (zip2 bit_and shifted (replicate 8 255)) ≡ 8 = length-zip2 bit_and shifted (replicate 8 255) shift_long ∙ shift_long in
    length-zip2 bit_xor hash (zip2 bit_and shifted (replicate 8 255)) (eight ∙ sym part_long) ∙ eight

same_sum : (a b c : ℕ) → c ≡ a + b → c ≡ a + b
same_sum a b c e = e

regroup : (i k : ℕ) → suc i + k ≡ i + suc k
regroup i k = omega arith

one_more : (k : ℕ) → k + 1 ≡ suc k
one_more k = omega arith

from_zero : (k : ℕ) → 0 + k ≡ k
from_zero k = omega arith

bytes_push : (i k n : ℕ) → bytes_low_first i (suc k) n ≡ bytes_low_first i k n ++ byte_at (i + k) n ∷ []
bytes_push i zero n = ap (λ j. byte_at j n ∷ []) (same_sum i 0 i (omega arith))
bytes_push i (suc k) n = ap (λ bs. byte_at i n ∷ bs) (bytes_push (suc i) k n ∙ ap (λ j. bytes_low_first (suc i) k n ++ byte_at j n ∷ []) (regroup i k))

-- one byte more of each column
pub bytes_step : (hash column : List ℕ) (k : ℕ) → zip2 (λ h x. fnv_step h (byte_at k x)) (zip2 (λ h x. fold fnv_step h (bytes_low_first 0 k x)) hash column) column ≡ zip2 (λ h x. fold fnv_step h (bytes_low_first 0 (k + 1) x)) hash column
bytes_step hash column k =
    zip2_again (λ (h x : ℕ). fnv_step h (byte_at k x)) (λ (h x : ℕ). fold fnv_step h (bytes_low_first 0 k x)) hash column
    ∙ zip2_same (λ h x. fnv_step (fold fnv_step h (bytes_low_first 0 k x)) (byte_at k x)) (λ h x. fold fnv_step h (bytes_low_first 0 (k + 1) x)) (λ h x. sym (
    ap (λ m. fold fnv_step h (bytes_low_first 0 m x)) (one_more k) ∙ ap (fold fnv_step h) (bytes_push 0 k x)
    ∙ fold-append fnv_step h (bytes_low_first 0 k x) (byte_at (0 + k) x ∷ [])
    ∙ ap (λ j. fnv_step (fold fnv_step h (bytes_low_first 0 k x)) (byte_at j x)) (from_zero k))) hash column

pub zip2_left : {A B : Type 0} (hs : List A) (xs : List B) → length hs ≡ length xs → zip2 (λ h x. h) hs xs ≡ hs
zip2_left [] xs e = refl
zip2_left (h ∷ hs) [] e = absurd (omega arith)
zip2_left (h ∷ hs) (x ∷ xs) e = ap (λ ys. h ∷ ys) (zip2_left hs xs (omega arith))
