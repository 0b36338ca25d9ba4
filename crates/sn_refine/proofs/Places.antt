-- Lists made place by place.
use Rattle.std.proofs.Common.{◌≡◌, ℕ, zero, suc, ◌+◌, ◌<◌, ◌≤◌, [], ◌∷◌, ◌++◌, map, take, length, slice_get, unwrap_or, refl, ap, sym, ◌∙◌, arith}
use Rattle.std.specs.List.{range_with_len}
use Rattle.std.proofs.lemmas.List.{map-append, get_or-map}
use Rattle.std.proofs.lemmas.List.FromFn.{get_or-map-range_with_len, length-map-range_with_len, take-map-range_with_len}
use Rattle.std.proofs.lemmas.Option.{unwrap_or-slice_get}

range_more : (a n : ℕ) → range_with_len a n ++ (a + n) ∷ [] ≡ range_with_len a (suc n)
range_more a zero = ap (λ m. m ∷ []) still
  where
    still : a + 0 ≡ a
    still = omega arith
range_more a (suc n) = ap (λ ys. a ∷ ys) (ap (λ m. range_with_len (a + 1) n ++ m ∷ []) moved ∙ range_more (a + 1) n)
  where
    moved : a + suc n ≡ a + 1 + n
    moved = omega arith

-- one more place
pub map_more : {X : Type 0} (f : ℕ → X) (n : ℕ) → map f (range_with_len 0 n) ++ f n ∷ [] ≡ map f (range_with_len 0 (n + 1))
map_more f n =
    sym (map-append f (range_with_len 0 n) (n ∷ []))
    ∙ ap (map f) (ap (λ m. range_with_len 0 n ++ m ∷ []) here ∙ range_more 0 n ∙ ap (range_with_len 0) next)
  where
    here : n ≡ 0 + n
    here = omega arith

    next : suc n ≡ n + 1
    next = omega arith

-- two that agree at each place
pub map_below : {X : Type 0} (f g : ℕ → X) (a n : ℕ) → ((j : ℕ) → j < a + n → f j ≡ g j) → map f (range_with_len a n) ≡ map g (range_with_len a n)
map_below f g a zero h = refl
map_below f g a (suc n) h =
    ap (λ x. x ∷ map f (range_with_len (a + 1) n)) (h a (omega arith))
    ∙ ap (λ xs. g a ∷ xs) (map_below f g (a + 1) n (λ j below. h j (omega (arith, below))))

-- the item at a place, where no more than the first n are changed
pub at_place : {X Y : Type 0} (g : X → Y) (f : ℕ → X) (many n j : ℕ) (d : Y) → j < n → n ≤ many → unwrap_or (slice_get (map g (take n (map f (range_with_len 0 many)))) j) d ≡ g (f j)
at_place g f many n j d lt le =
    let first = map f (range_with_len 0 n) in
    let count = length-map-range_with_len f 0 n in
    let within : j < length first = omega (arith, lt, count) in
    ap (λ xs. unwrap_or (slice_get (map g xs) j) d) (take-map-range_with_len f 0 many n le)
    ∙ unwrap_or-slice_get (map g first) j d
    ∙ get_or-map g first j (f j) d within
    ∙ ap g (get_or-map-range_with_len f 0 n j j (f j) lt (omega arith))
