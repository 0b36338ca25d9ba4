-- Masks in lanes.
use Rattle.std.proofs.Common.{◌≡◌, ℕ, suc, ◌-◌, ◌*◌, ◌/◌, ◌^◌, ◌<◌, ◌≤◌, List, [], ◌∷◌, length, map, take, min, nat_le, slice_index, bit_and, replicate, refl, ap, sym, ◌∙◌, arith}
use Rattle.std.specs.Simd.Lanes.{zip2, put_chunk}
use Rattle.std.proofs.lemmas.Simd.{put_chunk_whole}
use Rattle.std.proofs.lemmas.Nat.Bits.{and_high_mask}
use Rattle.std.proofs.lemmas.Bool.{leb-true, leb-false}
use mir.Val.{Fits}
use mir.Syntax.{w64}
use Rattle.sn_base.specs.Mask.{masked}
use Rattle.sn_base.proofs.Lists.{by_test}
use Rattle.sn_base.proofs.NumberLemmas.{none_kept}
use Rattle.sn_lanes.proofs.LaneLemmas.{masked_is, length_flags}

pub stored_masks : (block : List ℕ) (bits : ℕ) (out : List ℕ) → length block ≡ 8 → length out ≡ 8 → put_chunk 0 out (zip2 bit_and (take 8 block) (replicate 8 bits)) ≡ map (λ x. bit_and x bits) block
stored_masks block bits out eight room =
    ap (put_chunk 0 out) (masked_is block bits eight) ∙ put_chunk_whole out (map (λ x. bit_and x bits) block) (room ∙ sym (length_flags (λ (x : ℕ). bit_and x bits) block ∙ eight))

-- past all its bits nothing is left of a number
cleared_one : (places x : ℕ) → x < 2 ^ 64 → bit_and x (2 ^ 64 - 2 ^ min places 64) ≡ x / 2 ^ places * 2 ^ places
cleared_one places x fits =
    by_test (nat_le places 64)
    (λ is. let few : places ≤ 64 = leb-true places 64 is in
    let e : min places 64 ≡ places = omega (arith, few) in
    ap (λ n. bit_and x (2 ^ 64 - 2 ^ n)) e ∙ and_high_mask 64 places few x fits)
    (λ isnt. let all : 64 < places = leb-false places 64 isnt in
    let e : min places 64 ≡ 64 = omega (arith, all) in
    let le : 64 ≤ places = omega (arith, all) in
    ap (λ n. bit_and x (2 ^ 64 - 2 ^ n)) e ∙ and_high_mask 64 64 (omega arith) x fits ∙ sym (none_kept 64 64 x fits (omega arith)) ∙ none_kept 64 places x fits le)

pub masked_all : (width keep : ℕ) (xs : List ℕ) → ((k : ℕ) → Fits w64 (slice_index xs k)) → map (λ x. bit_and x (2 ^ 64 - 2 ^ min (width - keep) 64)) xs ≡ map (masked width keep) xs
masked_all width keep [] fit = refl
masked_all width keep (x ∷ xs) fit =
    ap (λ n. n ∷ map (λ y. bit_and y (2 ^ 64 - 2 ^ min (width - keep) 64)) xs) (cleared_one (width - keep) x (fit 0).fits)
    ∙ ap (λ ys. masked width keep x ∷ ys) (masked_all width keep xs (λ k. fit (suc k)))
