-- Groups, one row or Partial row more.
use Rattle.std.proofs.Common.{◌≡◌, ℕ, ◌+◌, ◌<◌, ◌≤◌, List, [], ◌∷◌, ◌++◌, map, fold, take, length, get_or, All, unwrap_or, slice_index, ap, sym, ◌∙◌, subst, append_assoc, arith, length-take-le}
use Rattle.std.specs.List.{AllByRecursion}
use Rattle.std.specs.Map.{lookup}
use Rattle.std.specs.Cmp.Lexicographic.{nat_list_eq_equiv}
use Rattle.std.proofs.lemmas.List.{take_all, map-append, length-map}
use Rattle.std.proofs.lemmas.List.Elements.{All-from_recursion, recursion_from_All}
use Rattle.indexmap.specs.IndexMap.{insert_entry}
use Rattle.sn_base.specs.AnyFold.{any_has, any_unit, any_step}
use Rattle.sn_base.specs.Groups.{Row, once, same_row, paired, folded, put_entry, values_at}
use Rattle.sn_base.specs.Operators.{Grouping, grouped, pair_of, parted}
use Rattle.sn_base.proofs.Lists.{all_append, all_map, map_both}
use Rattle.sn_base.proofs.OnceLemmas.{all_once}
use Rattle.sn_base.proofs.FoldedLemmas.{same_row_exact, folded_push, folded_at, all_paired}
use Rattle.sn_base.proofs.GroupLemmas.{AllHad, total_had, keys}
use Rattle.sn_ops.proofs.Steps.{taken, insert_is_put}

abbrev pub groups_of : Grouping → List (Row × ℕ) → List (Row × ℕ)
groups_of g pairs = folded same_row (any_step g.by) (any_unit g.by) pairs

abbrev pub one_pair : Row → ℕ → List (Row × ℕ)
one_pair key v = (key, v) ∷ []

-- one pair more
pub pair_step : (g : Grouping) (pairs : List (Row × ℕ)) (entries : List (Row × ℕ)) (key : Row) (v : ℕ) → entries ≡ groups_of g pairs
    → insert_entry same_row entries key (any_step g.by (unwrap_or (lookup (same_row key) entries) (any_unit g.by)) v) ≡ groups_of g (pairs ++ (key, v) ∷ [])
pair_step g pairs entries key v before =
    insert_is_put entries key (any_step g.by (unwrap_or (lookup (same_row key) entries) (any_unit g.by)) v)
    ∙ ap (λ es. put_entry same_row es key (any_step g.by (unwrap_or (lookup (same_row key) es) (any_unit g.by)) v)) before
    ∙ ap (λ (n : ℕ). put_entry same_row (groups_of g pairs) key (any_step g.by n v)) (folded_at nat_list_eq_equiv same_row_exact (any_step g.by) (any_unit g.by) pairs key)
    ∙ sym (folded_push nat_list_eq_equiv same_row_exact (any_step g.by) (any_unit g.by) pairs key v)

-- what the groups have at a key is a number of the fold
pub so_far_had : (g : Grouping) (pairs : List (Row × ℕ)) (entries : List (Row × ℕ)) (key : Row) → entries ≡ groups_of g pairs → AllHad g pairs → any_has g.by (unwrap_or (lookup (same_row key) entries) (any_unit g.by))
so_far_had g pairs entries key before had =
    subst (λ (es : List (Row × ℕ)). any_has g.by (unwrap_or (lookup (same_row key) es) (any_unit g.by))) (sym before)
    (subst (any_has g.by) (sym (folded_at nat_list_eq_equiv same_row_exact (any_step g.by) (any_unit g.by) pairs key)) (total_had g pairs key had))

pub pairs_had : (g : Grouping) (rows : List Row) → All (λ row. any_has g.by (slice_index row g.value)) rows → AllHad g (map (pair_of g) rows)
pairs_had g rows h = all_map (λ (p : Row × ℕ). any_has g.by p.1) (pair_of g) rows (recursion_from_All (λ (row : Row). any_has g.by (slice_index row g.value)) rows h)

pub parts_had : (g : Grouping) (parts : List Row) → All (λ row. any_has g.by (slice_index row (length g.places))) parts → AllHad g (map (parted g) parts)
parts_had g parts h = all_map (λ (p : Row × ℕ). any_has g.by p.1) (parted g) parts (recursion_from_All (λ (row : Row). any_has g.by (slice_index row (length g.places))) parts h)

pub both_had : (g : Grouping) (rows parts : List Row) → All (λ row. any_has g.by (slice_index row g.value)) rows → All (λ row. any_has g.by (slice_index row (length g.places))) parts → AllHad g (map (pair_of g) rows ++ map (parted g) parts)
both_had g rows parts h k = all_append (λ (p : Row × ℕ). any_has g.by p.1) (map (pair_of g) rows) (map (parted g) parts) (pairs_had g rows h) (parts_had g parts k)

-- rows and Partial rows, one more of either
abbrev pub pairs_to : Grouping → List Row → List Row → List (Row × ℕ)
pairs_to g rows parts = map (pair_of g) rows ++ map (parted g) parts

pub row_more : (g : Grouping) (rows : List Row) (i : ℕ) (row : Row) → i < length rows → row ≡ get_or rows i row → map (pair_of g) (take i rows) ++ pair_of g row ∷ [] ≡ map (pair_of g) (take (i + 1) rows)
row_more g rows i row within at = sym (ap (map (pair_of g)) (taken rows i row within at) ∙ map-append (pair_of g) (take i rows) (row ∷ []))

pub part_more : (g : Grouping) (rows parts : List Row) (i : ℕ) (part : Row) → i < length parts → part ≡ get_or parts i part → pairs_to g rows (take i parts) ++ parted g part ∷ [] ≡ pairs_to g rows (take (i + 1) parts)
part_more g rows parts i part within at =
    append_assoc (map (pair_of g) rows) (map (parted g) (take i parts)) (parted g part ∷ [])
    ∙ ap (λ ps. map (pair_of g) rows ++ ps) (sym (ap (map (parted g)) (taken parts i part within at) ∙ map-append (parted g) (take i parts) (part ∷ [])))

-- a group's key has as many columns as there are places
row_keys_short : (g : Grouping) (rows : List Row) → length g.places < 8 → AllByRecursion (λ (p : Row × ℕ). length p.0 < 8) (map (pair_of g) rows)
row_keys_short g [] few = tt
row_keys_short g (row ∷ rows) few = (subst (λ (n : ℕ). n < 8) (sym (length-map g.places (λ place. slice_index row place))) few, row_keys_short g rows few)

part_keys_short : (g : Grouping) (parts : List Row) → length g.places < 8 → AllByRecursion (λ (row : Row). length g.places < length row) parts → AllByRecursion (λ (p : Row × ℕ). length p.0 < 8) (map (parted g) parts)
part_keys_short g [] few long = tt
part_keys_short g (part ∷ parts) few long =
    let l : length g.places < length part = long.0 in
    let same : length (take (length g.places) part) ≡ length g.places = length-take-le (length g.places) part (omega (arith, l)) in (
      subst (λ (n : ℕ). n < 8) (sym same) few,
      part_keys_short g parts few long.1,
    )

pub groups_are_short : (g : Grouping) (rows parts : List Row) (entries : List (Row × ℕ)) → length g.places < 8 → All (λ row. length g.places < length row) parts → entries ≡ groups_of g (pairs_to g rows parts) → All (λ (e : Row × ℕ). length e.0 < 8) entries
groups_are_short g rows parts entries few long is =
    let pairs = pairs_to g rows parts in
    let Short : Row → Type 0 = λ k. length k < 8 in
    subst (λ (es : List (Row × ℕ)). All (λ (e : Row × ℕ). length e.0 < 8) es) (sym is)
    (All-from_recursion (λ (e : Row × ℕ). length e.0 < 8) (groups_of g pairs)
    (all_paired Short (λ k. fold (any_step g.by) (any_unit g.by) (values_at same_row k pairs)) (once same_row (keys pairs))
    (all_once same_row Short (keys pairs)
    (all_map Short (λ (p : Row × ℕ). p.0) pairs
    (all_append (λ (p : Row × ℕ). Short p.0) (map (pair_of g) rows) (map (parted g) parts) (row_keys_short g rows few)
    (part_keys_short g parts few (recursion_from_All (λ (row : Row). length g.places < length row) parts long)))))))

-- the groups as rows
pub rows_of_groups : (g : Grouping) (pairs : List (Row × ℕ)) (entries : List (Row × ℕ)) → entries ≡ groups_of g pairs → map (λ (e : Row × ℕ). e.0 ++ e.1 ∷ []) entries ≡ grouped g pairs
rows_of_groups g pairs entries is =
    ap (map (λ (e : Row × ℕ). e.0 ++ e.1 ∷ [])) is
    ∙ map_both (paired (λ k. fold (any_step g.by) (any_unit g.by) (values_at same_row k pairs))) (λ (e : Row × ℕ). e.0 ++ e.1 ∷ []) (once same_row (keys pairs))

pub rows_of_all : (g : Grouping) (rows parts : List Row) (m : ℕ) (entries : List (Row × ℕ)) → length parts ≤ m → entries ≡ groups_of g (pairs_to g rows (take m parts))
    → map (λ (e : Row × ℕ). e.0 ++ e.1 ∷ []) entries ≡ grouped g (pairs_to g rows parts)
rows_of_all g rows parts m entries all is = rows_of_groups g (pairs_to g rows parts) entries (is ∙ ap (λ ps. groups_of g (pairs_to g rows ps)) (take_all m parts all))
