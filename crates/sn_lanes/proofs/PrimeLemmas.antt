-- Products with the prime of FNV-1a in lanes.
use Rattle.std.proofs.Common.{◌≡◌, ℕ, ◌+◌, ◌*◌, ◌/◌, ◌%◌, ◌^◌, List, length, map, bit_and, replicate, ap, ◌∙◌, arith}
use Rattle.std.specs.Simd.Lanes.{zip2}
use Rattle.std.proofs.lemmas.Simd.{zip2_splat, zip2_of_maps, splat_is_map}
use Rattle.std.proofs.lemmas.Nat.{and_mask}
use Rattle.sn_lanes.proofs.LaneLemmas.{map_same}

abbrev low : ℕ → ℕ
low h = (bit_and h 4294967295 * 435) % 2 ^ 64

abbrev high : ℕ → ℕ
high h = (h / 2 ^ 32 * 435) % 2 ^ 64

abbrev top : ℕ → ℕ
top h = (h * 2 ^ 40) % 2 ^ 64

parted : (h : ℕ) → ((h * 1099511627776 % 18446744073709551616 + h % 4294967296 * 435 % 18446744073709551616) % 18446744073709551616 + h / 4294967296 * 435 % 18446744073709551616 * 4294967296 % 18446744073709551616) % 18446744073709551616 ≡ h * 1099511628211 % 18446744073709551616
parted h = omega arith

-- the prime is 2^40 + 435
one : (h : ℕ) → ((top h + low h) % 2 ^ 64 + high h * 2 ^ 32 % 2 ^ 64) % 2 ^ 64 ≡ h * 1099511628211 % 2 ^ 64
one h = ap (λ n. ((top h + n * 435 % 2 ^ 64) % 2 ^ 64 + high h * 2 ^ 32 % 2 ^ 64) % 2 ^ 64) (and_mask h 32) ∙ parted h

pub product_is : (hash : List ℕ) → length hash ≡ 8 →
    zip2 (λ a b. (a + b) % 2 ^ 64)
    (zip2 (λ a b. (a + b) % 2 ^ 64) (zip2 (λ x s. (x * 2 ^ s) % 2 ^ 64) hash (replicate 8 40)) (zip2 (λ a b. (a * b) % 2 ^ 64) (zip2 bit_and hash (replicate 8 4294967295)) (replicate 8 435)))
    (zip2 (λ x s. (x * 2 ^ s) % 2 ^ 64) (zip2 (λ a b. (a * b) % 2 ^ 64) (zip2 (λ x s. x / 2 ^ s) hash (replicate 8 32)) (replicate 8 435)) (replicate 8 32))
    ≡ map (λ h. h * 1099511628211 % 2 ^ 64) hash
product_is hash eight =
    let plus : ℕ → ℕ → ℕ = λ a b. (a + b) % 2 ^ 64 in
    let times : ℕ → ℕ → ℕ = λ a b. (a * b) % 2 ^ 64 in
    let raise : ℕ → ℕ → ℕ = λ x s. (x * 2 ^ s) % 2 ^ 64 in
    let small = splat_is_map hash 8 435 eight in
    let is_top = zip2_splat raise hash 8 40 eight in
    let is_low = zip2_of_maps times (λ (h : ℕ). bit_and h 4294967295) (λ _. 435) hash (zip2_splat bit_and hash 8 4294967295 eight) small in
    let is_high = zip2_of_maps times (λ (h : ℕ). h / 2 ^ 32) (λ _. 435) hash (zip2_splat (λ (x s : ℕ). x / 2 ^ s) hash 8 32 eight) small in
    let is_raised = zip2_of_maps raise high (λ _. 32) hash is_high (splat_is_map hash 8 32 eight) in
    zip2_of_maps plus (λ h. plus (top h) (low h)) (λ h. raise (high h) 32) hash (zip2_of_maps plus top low hash is_top is_low) is_raised
    ∙ map_same (λ h. plus (plus (top h) (low h)) (raise (high h) 32)) (λ h. h * 1099511628211 % 2 ^ 64) one hash
