-- The bytes of a range.
use Rattle.std.proofs.Common.{◌≡◌, ℕ, ◌+◌, ◌-◌, ◌≤◌, List, [], ◌∷◌, ◌++◌, length, take, drop, refl, ap, sym, ◌∙◌, subst, arith}
use Rattle.std.proofs.Math.Seq.{take-add}
use Rattle.std.proofs.lemmas.List.{drop-drop, drop-take, length-drop, length-take}

-- a list that is written over another of its length
pub written_over : (bytes rest : List ℕ) (count : ℕ) → length bytes ≡ count → take count (bytes ++ rest) ≡ bytes
written_over bytes rest count e = subst (λ (n : ℕ). take n (bytes ++ rest) ≡ bytes) e (own bytes)
  where
    own : (xs : List ℕ) → take (length xs) (xs ++ rest) ≡ xs
    own [] = refl
    own (x ∷ xs) = ap (λ (ys : List ℕ). x ∷ ys) (own xs)

module _ (bytes : List ℕ) (start end : ℕ) where
  pub range_long : start ≤ end → end ≤ length bytes → length (take (end - start) (drop start bytes)) ≡ end - start
  range_long order within = let a = length-take (end - start) (drop start bytes) in let b = length-drop start bytes in omega (arith, a, b, order, within)

  -- its first bytes are taken off
  pub range_passed : (count : ℕ) → start + count ≤ end → take (end - (start + count)) (drop (start + count) bytes) ≡ drop count (take (end - start) (drop start bytes))
  range_passed count fits =
      let long : end - start ≡ count + (end - (start + count)) = omega (arith, fits) in
      ap (take (end - (start + count))) (sym (drop-drop count start bytes)) ∙ sym (drop-take count (end - (start + count)) (drop start bytes))
      ∙ ap (λ (n : ℕ). drop count (take n (drop start bytes))) (sym long)

  -- it was moved to the front, and more bytes stand after it
  pub range_read : (moved more : List ℕ) (count : ℕ) → take (end - start) moved ≡ take (end - start) (drop start bytes) → take (end - start) more ≡ take (end - start) moved
      → take (end - start + count) more ≡ take (end - start) (drop start bytes) ++ take count (drop (end - start) more)
  range_read moved more count front kept = take-add (end - start) count more ∙ ap (λ (xs : List ℕ). xs ++ take count (drop (end - start) more)) (kept ∙ front)
