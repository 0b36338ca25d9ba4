-- Keys of marked rows.
use Rattle.std.proofs.Common.{◌≡◌, ◌<◌, ◌+◌, ◌||◌, ℕ, List, [], ◌∷◌, map, length, get_or, zero, suc, arith, slice_index, Bool, true, false, cond, refl, ap, sym, subst, ◌∙◌}
use Rattle.std.specs.List.{AllByRecursion}
use Rattle.std.proofs.lemmas.List.{length-map}
use Rattle.sn_base.specs.Groups.{Row, columns_at, keyed}
use Rattle.sn_base.proofs.Lists.{all_map, all_of, map_agree}
use Rattle.sn_cost_seats.specs.Tallies.{marked}
use Rattle.sn_cost_tally.specs.Numbered.{zipped}
use Rattle.sn_cost_counts.specs.AnyFlow.{Flow}
use Rattle.sn_cost_counts.specs.Shared.{following}

-- keys beside values are rows as keys and values
pub zipped_keyed : (places : List ℕ) (value : ℕ) (rows : List Row) → zipped (map (columns_at places) rows) (map (λ row. slice_index row value) rows) ≡ map (keyed places value) rows
zipped_keyed places value [] = refl
zipped_keyed places value (row ∷ rows) = ap (λ ps. keyed places value row ∷ ps) (zipped_keyed places value rows)

pub map_marked : {X Y : Type 0} (f : X → Y) (marks : List Bool) (xs : List X) → marked marks (map f xs) ≡ map f (marked marks xs)
map_marked f [] xs = refl
map_marked f (m ∷ ms) [] = refl
map_marked f (m ∷ ms) (x ∷ xs) =
    ap (λ ys. cond m (f x ∷ ys) ys) (map_marked f ms xs) ∙ elim m as (λ b. cond b (f x ∷ map f (marked ms xs)) (map f (marked ms xs)) ≡ map f (cond b (x ∷ marked ms xs) (marked ms xs))) [ true ↦ refl | false ↦ refl ]

pub keys_few : (places : List ℕ) (rows : List Row) → length places < 8 → AllByRecursion (λ key. length key < 8) (map (columns_at places) rows)
keys_few places rows few =
    let P : Row → Type 0 = λ key. length key < 8 in
    all_map P (columns_at places) rows (all_of (λ (row : Row). P (columns_at places row)) (λ row. subst (λ (n : ℕ). n < 8) (sym (length-map places (λ place. slice_index row place))) few) rows)

-- of what was sent before the rows don't matter, nor whether filters drop them
pub following_same : (f g : Flow) (flows : List Flow) → f.sent ≡ g.sent → f.spilled ≡ g.spilled → map (following f) flows ≡ map (following g) flows
following_same f g flows sent spilled =
    map_agree (following f) (following g)
    (λ next. ap (λ n. record (following f next) { sent = n + next.sent }) sent
    ∙ ap (λ b. record { sent = g.sent + next.sent; rows = next.rows; spilled = b || next.spilled; whole = f.spilled }) spilled
    ∙ ap (λ b. record { sent = g.sent + next.sent; rows = next.rows; spilled = g.spilled || next.spilled; whole = b }) spilled) flows

pub read_mapped : {X Y : Type 0} (f : X → Y) (xs : List X) (i : ℕ) (x : X) → i < length xs → x ≡ get_or xs i x → f x ≡ get_or (map f xs) i (f x)
read_mapped f [] i x lt is = absurd (omega (arith, lt))
read_mapped f (y ∷ ys) zero x lt is = ap f is
read_mapped f (y ∷ ys) (suc i) x lt is = read_mapped f ys i x (omega (arith, lt)) is
