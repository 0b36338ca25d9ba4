-- The pairs of a join, one after another.
use Rattle.std.proofs.Common.{◌≡◌, ℕ, ◌+◌, ◌<◌, List, [], ◌∷◌, ◌++◌, map, filter, length, take, drop, get_or, Bool, ap, sym, ◌∙◌, append_assoc}
use Rattle.std.specs.List.{flat_map}
use Rattle.std.proofs.lemmas.Grind.{flat_map-append}
use Rattle.std.proofs.lemmas.List.{map_more, map-append, take-append-drop}
use Rattle.sn_base.specs.Groups.{Row}
use Rattle.sn_base.specs.Operators.{join}
use Rattle.sn_ops.proofs.Steps.{flat_step}

-- these pairs, one more, and the others are all pairs of a left row
pub one_pair : (f : Row → Row) (found : List Row) (i : ℕ) (right : Row) → i < length found → right ≡ get_or found i right → (map f (take i found) ++ f right ∷ []) ++ map f (drop (i + 1) found) ≡ map f found
one_pair f found i right within at =
    let D : List Row = map f (drop (i + 1) found) in
    ap (λ (x : Row). (map f (take i found) ++ f x ∷ []) ++ D) at
    ∙ ap (λ (rs : List Row). rs ++ D) (sym (map_more f found i right within))
    ∙ sym (map-append f (take (i + 1) found) (drop (i + 1) found))
    ∙ ap (map f) (take-append-drop (i + 1) found)

-- the pairs of a left row stand after those of the rows before it, and before those of the others
pub pairs_whole : (meets : Row → Row → Bool) (both : Row → Row → Row) (left right : List Row) (i : ℕ) (row : Row) (front following : List Row) → i < length left → row ≡ get_or left i row
    → front ++ following ≡ map (both row) (filter (meets row) right) → (join meets both (take i left) right ++ front) ++ (following ++ join meets both (drop (i + 1) left) right) ≡ join meets both left right
pairs_whole meets both left right i row front following within at is =
    let f : Row → List Row = λ l. map (both l) (filter (meets l) right) in
    let J : List Row = join meets both (take i left) right in
    let D : List Row = join meets both (drop (i + 1) left) right in
    append_assoc J front (following ++ D)
    ∙ ap (λ (rs : List Row). J ++ rs) (sym (append_assoc front following D) ∙ ap (λ (rs : List Row). rs ++ D) is)
    ∙ sym (append_assoc J (f row) D)
    ∙ ap (λ (rs : List Row). rs ++ D) (flat_step f left i row within at)
    ∙ sym (flat_map-append f (take (i + 1) left) (drop (i + 1) left))
    ∙ ap (flat_map f) (take-append-drop (i + 1) left)
