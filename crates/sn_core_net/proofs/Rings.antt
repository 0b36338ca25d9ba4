-- Rings over rows of a kind.
use Rattle.std.proofs.Common.{◌≡◌, ℕ, ◌<◌, [], ◌∷◌, ◌++◌, ◌-◌, List, length, map, drop, ap, sym, ◌∙◌, arith}
use Rattle.std.proofs.lemmas.List.{drop-map, length-append, length-map, map-append}
use Rattle.circular_buffer.specs.Buffer.{keep_last}

-- what is kept of a list with one more is the same, whether it is changed before or after
pub map_kept : {X Y : Type 0} (change : X → Y) (n : ℕ) (xs : List X) (x : X) → map change (keep_last n (xs ++ x ∷ [])) ≡ keep_last n (map change xs ++ change x ∷ [])
map_kept change n xs x =
    let all = xs ++ x ∷ [] in
    sym (drop-map change (length all - n) all) ∙ ap (λ k. drop (k - n) (map change all)) (sym (length-map all change)) ∙ ap (keep_last n) (map-append change xs (x ∷ []))

-- a list that has room for one more keeps all
pub kept_whole : {X : Type 0} (n : ℕ) (xs : List X) (x : X) → length xs < n → keep_last n (xs ++ x ∷ []) ≡ xs ++ x ∷ []
kept_whole n xs x room =
    let none : length (xs ++ x ∷ []) - n ≡ 0 = omega (arith, room, length-append xs (x ∷ [])) in
    ap (λ k. drop k (xs ++ x ∷ [])) none
