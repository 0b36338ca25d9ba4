-- Comparisons in lanes of each width.
use Rattle.std.proofs.Common.{◌≡◌, ℕ, suc, zero, ◌-◌, ◌^◌, List, [], ◌∷◌, length, map, Bool, cond, replicate, refl, ap, ◌∙◌, arith}
use Rattle.std.specs.Simd.Lanes.{zip2, sel_l, top}
use Rattle.std.proofs.lemmas.Simd.{tops_compared}
use mir.Val.{bits, hbits}
use mir.Syntax.{Width}

sel_flags : (t : ℕ → ℕ → Bool) (xs ys : List ℕ) (n : ℕ) → length xs ≡ n → length ys ≡ n → sel_l {A = ℕ} (zip2 t xs ys) (replicate n 1) (replicate n 0) ≡ zip2 (λ a b. cond (t a b) 1 0) xs ys
sel_flags t [] ys n e f = refl
sel_flags t (x ∷ xs) [] n e f = refl
sel_flags t (x ∷ xs) (y ∷ ys) zero e f = absurd (omega arith)
sel_flags t (x ∷ xs) (y ∷ ys) (suc n) e f = ap (λ zs. cond (t x y) 1 0 ∷ zs) (sel_flags t xs ys n (omega arith) (omega arith))

flipped : (f : ℕ → ℕ → ℕ) (xs ys : List ℕ) → zip2 f ys xs ≡ zip2 (λ a b. f b a) xs ys
flipped f [] [] = refl
flipped f [] (y ∷ ys) = refl
flipped f (x ∷ xs) [] = refl
flipped f (x ∷ xs) (y ∷ ys) = ap (λ zs. f y x ∷ zs) (flipped f xs ys)

-- 1 in each lane where two vectors compare so, and 0 in the others
pub flags : (w : Width) (t : ℕ → ℕ → Bool) (xs ys : List ℕ) → length xs ≡ 16 → length ys ≡ 16
    → sel_l {A = ℕ} (map (top (hbits w)) (zip2 (λ a b. cond (t a b) (2 ^ bits w - 1) 0) xs ys)) (replicate 16 1) (replicate 16 0) ≡ zip2 (λ a b. cond (t a b) 1 0) xs ys
flags w t xs ys e f = ap (λ ms. sel_l {A = ℕ} ms (replicate 16 1) (replicate 16 0)) (tops_compared w t xs ys) ∙ sel_flags t xs ys 16 e f

-- where the second is compared with the first
pub flags_back : (w : Width) (t : ℕ → ℕ → Bool) (xs ys : List ℕ) → length xs ≡ 16 → length ys ≡ 16
    → sel_l {A = ℕ} (map (top (hbits w)) (zip2 (λ a b. cond (t a b) (2 ^ bits w - 1) 0) ys xs)) (replicate 16 1) (replicate 16 0) ≡ zip2 (λ a b. cond (t b a) 1 0) xs ys
flags_back w t xs ys e f = flags w t ys xs f e ∙ flipped (λ a b. cond (t a b) 1 0) xs ys
