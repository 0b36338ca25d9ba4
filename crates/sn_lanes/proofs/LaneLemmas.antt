-- Comparisons in lanes, and blocks of a column.
use Rattle.std.proofs.Common.{◌≡◌, ℕ, suc, zero, ◌-◌, ◌^◌, ◌+◌, ◌≤◌, List, [], ◌∷◌, ◌++◌, length, take, drop, length-drop, map, Bool, true, false, cond, bit_and, replicate, refl, ap, sym, ◌∙◌, arith}
use Rattle.std.specs.Simd.Lanes.{zip2, sel_l, top, Each1, put_chunk}
use Rattle.std.proofs.lemmas.Simd.{zip2_splat, zip2_of_maps, splat_is_map, tops_compared, put_chunk_whole}
use Rattle.std.proofs.lemmas.List.{take_all, map-append, length-take-le}
use Rattle.std.proofs.lemmas.Slice.{take-put_mid}
use Rattle.std.proofs.Math.Seq.{take-add}
use borrow.Rule.Slice.PartMut.{put_mid}
use Rattle.std.specs.Int.{w64}
use mir.Val.{bits, hbits}

sel_flags : {X : Type 0} (p : X → Bool) (xs : List X) (n : ℕ) → length xs ≡ n → sel_l {A = ℕ} (map p xs) (replicate n 1) (replicate n 0) ≡ map (λ x. cond (p x) 1 0) xs
sel_flags p [] n e = refl
sel_flags p (x ∷ xs) zero e = absurd (omega arith)
sel_flags p (x ∷ xs) (suc n) e = ap (λ ys. cond (p x) 1 0 ∷ ys) (sel_flags p xs n (omega arith))

pub map_map : {X Y Z : Type 0} (g : Y → Z) (f : X → Y) (xs : List X) → map g (map f xs) ≡ map (λ x. g (f x)) xs
map_map g f [] = refl
map_map g f (x ∷ xs) = ap (λ ys. g (f x) ∷ ys) (map_map g f xs)

pub length_flags : {X Y : Type 0} (f : X → Y) (xs : List X) → length (map f xs) ≡ length xs
length_flags f [] = refl
length_flags f (x ∷ xs) = ap suc (length_flags f xs)

-- a fact of 1 and of 0 holds in each lane of flags
pub each_flag : {X : Type 0} (P : ℕ → Type 0) → P 1 → P 0 → (p : X → Bool) (xs : List X) → Each1 P (map (λ x. cond (p x) 1 0) xs)
each_flag P one none p [] = tt
each_flag P one none p (x ∷ xs) = (elim (p x) as (λ b. P (cond b 1 0)) [ true ↦ one | false ↦ none ], each_flag P one none p xs)

-- what keeps 1 and 0 keeps flags
kept_flags : {X : Type 0} (f : ℕ → ℕ) → f 1 ≡ 1 → f 0 ≡ 0 → (p : X → Bool) (xs : List X) → map f (map (λ x. cond (p x) 1 0) xs) ≡ map (λ x. cond (p x) 1 0) xs
kept_flags f one none p [] = refl
kept_flags f one none p (x ∷ xs) = ap (λ n. n ∷ map f (map (λ y. cond (p y) 1 0) xs)) (elim (p x) as (λ b. f (cond b 1 0) ≡ cond b 1 0) [ true ↦ one | false ↦ none ]) ∙ ap (λ ys. cond (p x) 1 0 ∷ ys) (kept_flags f one none p xs)

-- flags written over a whole slice
pub stored_flags : {X : Type 0} (f : ℕ → ℕ) → f 1 ≡ 1 → f 0 ≡ 0 → (p : X → Bool) (xs : List X) (out : List ℕ) → length out ≡ length xs → put_chunk 0 out (map f (map (λ x. cond (p x) 1 0) xs)) ≡ map (λ x. cond (p x) 1 0) xs
stored_flags f one none p xs out long =
    let ys : List ℕ = map (λ x. cond (p x) 1 0) xs in
    ap (put_chunk 0 out) (kept_flags f one none p xs) ∙ put_chunk_whole out ys (long ∙ sym (length_flags (λ x. cond (p x) 1 0) xs))

-- 1 in each lane where two vectors, computed lane by lane from a block, compare so, and 0 in the others
pub hit_flags : (t : ℕ → ℕ → Bool) (f g : ℕ → ℕ) (block xs ys : List ℕ) → length block ≡ 8 → xs ≡ map f block → ys ≡ map g block →
    sel_l {A = ℕ} (map (top (hbits w64)) (zip2 (λ a b. cond (t a b) (2 ^ bits w64 - 1) 0) xs ys)) (replicate 8 1) (replicate 8 0)
    ≡ map (λ x. cond (t (f x) (g x)) 1 0) block
hit_flags t f g block xs ys long is_f is_g =
    ap (λ ms. sel_l {A = ℕ} ms (replicate 8 1) (replicate 8 0)) (tops_compared w64 t xs ys ∙ zip2_of_maps t f g block is_f is_g)
    ∙ sel_flags (λ x. t (f x) (g x)) block 8 long

pub masked_is : (block : List ℕ) (and : ℕ) → length block ≡ 8 → zip2 bit_and (take 8 block) (replicate 8 and) ≡ map (λ x. bit_and x and) block
masked_is block and long =
    let whole : take 8 block ≡ block = take_all 8 block (omega arith) in
    ap (λ xs. zip2 bit_and xs (replicate 8 and)) whole ∙ zip2_splat bit_and block 8 and long

-- the and-ed number first
pub block_flags : (t : ℕ → ℕ → Bool) (block : List ℕ) (and c : ℕ) → length block ≡ 8 →
    sel_l {A = ℕ} (map (top (hbits w64)) (zip2 (λ a b. cond (t a b) (2 ^ bits w64 - 1) 0) (zip2 bit_and (take 8 block) (replicate 8 and)) (replicate 8 c))) (replicate 8 1) (replicate 8 0)
    ≡ map (λ x. cond (t (bit_and x and) c) 1 0) block
block_flags t block and c long = hit_flags t (λ x. bit_and x and) (λ _. c) block _ _ long (masked_is block and long) (splat_is_map block 8 c long)

-- the constant first, as `simd_gt` compares
pub block_flags_back : (t : ℕ → ℕ → Bool) (block : List ℕ) (and c : ℕ) → length block ≡ 8 →
    sel_l {A = ℕ} (map (top (hbits w64)) (zip2 (λ a b. cond (t a b) (2 ^ bits w64 - 1) 0) (replicate 8 c) (zip2 bit_and (take 8 block) (replicate 8 and)))) (replicate 8 1) (replicate 8 0)
    ≡ map (λ x. cond (t c (bit_and x and)) 1 0) block
block_flags_back t block and c long = hit_flags t (λ _. c) (λ x. bit_and x and) block _ _ long (splat_is_map block 8 c long) (masked_is block and long)

-- one block more of a column
pub block_step : (f : ℕ → ℕ) (col out new : List ℕ) (at : ℕ) → at + 8 ≤ length col → length out ≡ length col → take at out ≡ map f (take at col) → new ≡ map f (take (at + 8 - at) (drop at col))
    → take (at + 8) (put_mid at (at + 8 - at) out new) ≡ map f (take (at + 8) col)
block_step f col out new at room long done is =
    let eight : at + 8 - at ≡ 8 = omega arith in
    let block : new ≡ map f (take 8 (drop at col)) = is ∙ ap (λ n. map f (take n (drop at col))) eight in
    let count : length new ≡ 8 = ap length block ∙ length_flags f (take 8 (drop at col)) ∙ length-take-le 8 (drop at col) (omega (arith, length-drop at col)) in
    take-put_mid at (at + 8 - at) out new (at + 8) (omega arith) (omega arith)
    ∙ ap (λ ys. ys ++ new) done ∙ ap (λ ys. map f (take at col) ++ ys) block
    ∙ sym (ap (map f) (take-add at 8 col) ∙ map-append f (take at col) (take 8 (drop at col)))

pub map_same : {X Y : Type 0} (f g : X → Y) → ((x : X) → f x ≡ g x) → (xs : List X) → map f xs ≡ map g xs
map_same f g e [] = refl
map_same f g e (x ∷ xs) = ap (λ y. y ∷ map f xs) (e x) ∙ ap (λ ys. g x ∷ ys) (map_same f g e xs)
