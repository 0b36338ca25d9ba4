-- Columns below 2^32 in lanes.
use Rattle.std.proofs.Common.{◌≡◌, ℕ, ◌*◌, ◌%◌, ◌^◌, ◌<◌, ◌≤◌, List, [], ◌∷◌, ◌++◌, length, fold, max, bit_or, replicate, refl, ap, ap₂, subst, sym, ◌∙◌, arith}
use Rattle.std.specs.Simd.Lanes.{zip2, fold_l}
use Rattle.std.specs.Int.{w64, bytes_low_first, to_le_bytes}
use Rattle.std.specs.Int.Bits.{xor_zero_r}
use Rattle.std.specs.List.{AllByRecursion}
use Rattle.std.proofs.lemmas.Simd.{zip2_splat, length-zip2}
use Rattle.std.proofs.lemmas.Nat.{le_or_l, le_or_r, mul-mod_first, mul-mod_second}
use Rattle.std.proofs.lemmas.List.Sums.{fold-append}
use Rattle.sn_base.specs.Slot.{fnv_step}
use Rattle.sn_lanes.proofs.MixLemmas.{map_zip2}

-- ---- bounds by what all lanes give together

or_grows : (n : ℕ) (xs : List ℕ) → n ≤ fold_l bit_or n xs
or_grows n [] = omega arith
or_grows n (x ∷ xs) =
    let one : n ≤ bit_or n x = le_or_l n x in
    let more : bit_or n x ≤ fold_l bit_or (bit_or n x) xs = or_grows (bit_or n x) xs in
    omega (arith, one, more)

pub or_bounds : (n bound : ℕ) (xs : List ℕ) → fold_l bit_or n xs < bound → AllByRecursion (λ x. x < bound) xs
or_bounds n bound [] small = tt
or_bounds n bound (x ∷ xs) small =
    let one : x ≤ bit_or n x = le_or_r n x in
    let more : bit_or n x ≤ fold_l bit_or (bit_or n x) xs = or_grows (bit_or n x) xs in
    (omega (arith, one, more, small), or_bounds (bit_or n x) bound xs small)

max_grows : (n : ℕ) (xs : List ℕ) → n ≤ fold max n xs
max_grows n [] = omega arith
max_grows n (x ∷ xs) =
    let more : max n x ≤ fold max (max n x) xs = max_grows (max n x) xs in
    omega (arith, more)

max_bounds : (n : ℕ) (xs : List ℕ) → AllByRecursion (λ x. x ≤ fold max n xs) xs
max_bounds n [] = tt
max_bounds n (x ∷ xs) =
    let more : max n x ≤ fold max (max n x) xs = max_grows (max n x) xs in
    (omega (arith, more), max_bounds (max n x) xs)

pub greatest_bounds : (most : ℕ) (xs : List ℕ) → most ≡ fold max 0 xs → AllByRecursion (λ x. x ≤ most) xs
greatest_bounds most xs is = subst (λ (m : ℕ). AllByRecursion (λ x. x ≤ m) xs) (sym is) (max_bounds 0 xs)

-- ---- four bytes of 0

mixed_zero : (hash : ℕ) → fnv_step hash 0 ≡ hash * 1099511628211 % 2 ^ 64
mixed_zero hash = ap (λ h. h * 1099511628211 % 2 ^ 64) (xor_zero_r hash)

once_more : (product hash : ℕ) → hash ≡ product % 2 ^ 64 → fnv_step hash 0 ≡ product * 1099511628211 % 2 ^ 64
once_more product hash is = mixed_zero hash ∙ ap (λ h. h * 1099511628211 % 2 ^ 64) is ∙ mul-mod_first product 1099511628211 (2 ^ 64)

four_zeros : (hash : ℕ) → fold fnv_step hash (0 ∷ 0 ∷ 0 ∷ 0 ∷ []) ≡ hash * 11527715348014283921 % 2 ^ 64
four_zeros hash =
    once_more (hash * 1099511628211 * 1099511628211 * 1099511628211) (fnv_step (fnv_step (fnv_step hash 0) 0) 0)
    (once_more (hash * 1099511628211 * 1099511628211) (fnv_step (fnv_step hash 0) 0) (once_more (hash * 1099511628211) (fnv_step hash 0) (mixed_zero hash)))
    ∙ ap (λ n. n % 2 ^ 64) (omega arith)
    ∙ sym (mul-mod_second hash 1461501639643759632241992381230392390794884791441 (2 ^ 64))

-- the upper four bytes of a number below 2^32
upper_zeros : (x : ℕ) → x < 2 ^ 32 → to_le_bytes w64 x ≡ bytes_low_first 0 4 x ++ 0 ∷ 0 ∷ 0 ∷ 0 ∷ []
upper_zeros x small =
    ap (λ bs. bytes_low_first 0 4 x ++ bs)
    (ap₂ (λ b bs. b ∷ bs) (omega (arith, small))
    (ap₂ (λ b bs. b ∷ bs) (omega (arith, small))
    (ap₂ (λ b bs. b ∷ bs) (omega (arith, small))
    (ap₂ (λ b bs. b ∷ bs) (omega (arith, small)) refl))))

low_bytes : (hash x : ℕ) → x < 2 ^ 32 → fold fnv_step hash (bytes_low_first 0 4 x) * 11527715348014283921 % 2 ^ 64 ≡ fold fnv_step hash (to_le_bytes w64 x)
low_bytes hash x small =
    sym (ap (fold fnv_step hash) (upper_zeros x small)
    ∙ fold-append fnv_step hash (bytes_low_first 0 4 x) (0 ∷ 0 ∷ 0 ∷ 0 ∷ [])
    ∙ four_zeros (fold fnv_step hash (bytes_low_first 0 4 x)))

same_where : {A B C : Type 0} (P : B → Type 0) (f g : A → B → C) → ((a : A) (b : B) → P b → f a b ≡ g a b) → (hs : List A) (xs : List B) → AllByRecursion P xs → zip2 f hs xs ≡ zip2 g hs xs
same_where P f g e [] xs h = refl
same_where P f g e (a ∷ hs) [] h = refl
same_where P f g e (a ∷ hs) (x ∷ xs) h = ap (λ y. y ∷ zip2 f hs xs) (e a x h.0) ∙ ap (λ ys. g a x ∷ ys) (same_where P f g e hs xs h.1)

-- four bytes of each column, and four of 0
pub low_is : (hash column mixed : List ℕ) → length hash ≡ 8 → length column ≡ 8 → AllByRecursion (λ x. x < 2 ^ 32) column → mixed ≡ zip2 (λ h x. fold fnv_step h (bytes_low_first 0 4 x)) hash column
    → zip2 (λ a b. (a * b) % 2 ^ 64) mixed (replicate 8 11527715348014283921) ≡ zip2 (λ h x. fold fnv_step h (to_le_bytes w64 x)) hash column
low_is hash column mixed eight also small is =
    let four : ℕ → ℕ → ℕ = λ h x. fold fnv_step h (bytes_low_first 0 4 x) in
    let times : ℕ → ℕ → ℕ = λ a b. (a * b) % 2 ^ 64 in
    ap (λ ys. zip2 times ys (replicate 8 11527715348014283921)) is
    ∙ zip2_splat times (zip2 four hash column) 8 11527715348014283921 (length-zip2 four hash column (eight ∙ sym also) ∙ eight)
    ∙ map_zip2 (λ (a : ℕ). a * 11527715348014283921 % 2 ^ 64) four hash column
    ∙ same_where (λ x. x < 2 ^ 32) (λ h x. four h x * 11527715348014283921 % 2 ^ 64) (λ h x. fold fnv_step h (to_le_bytes w64 x)) low_bytes hash column small
