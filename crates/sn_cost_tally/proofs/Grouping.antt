-- Groups, one row more.
use Rattle.std.proofs.Common.{◌≡◌, ℕ, ◌-◌, ◌^◌, ◌<◌, min, List, [], ◌∷◌, ◌++◌, map, fold, length, replicate, slice_get, slice_index, Some, unwrap_or, All, ap, sym, subst, ◌∙◌, arith}
use Rattle.std.specs.List.{AllByRecursion}
use Rattle.std.specs.Map.{lookup}
use Rattle.std.proofs.Math.Pow.{pow_mono}
use Rattle.std.proofs.lemmas.List.{length-map}
use Rattle.std.proofs.lemmas.List.Elements.{All-from_recursion}
use Rattle.std.proofs.lemmas.Option.{get_or_from_slice_get, slice_get_within}
use Rattle.sn_base.specs.AnyFold.{any_has, any_laws, any_step, any_unit}
use Rattle.sn_base.specs.declared.any_fold.AnyFold.{AnyFold}
use Rattle.sn_base.specs.declared.any_fold.AnyFold.TheVariants as folds
use Rattle.sn_base.specs.Groups.{Row, columns_at, folded, keyed, once, paired, same_row, values_at}
use Rattle.sn_base.specs.Operators.{Grouping, grouped}
use Rattle.sn_base.proofs.FoldLemmas.{fold_from}
use Rattle.sn_base.proofs.FoldedLemmas.{group_had}
use Rattle.sn_base.proofs.Lists.{all_map, all_of, map_both}
use Rattle.sn_base.proofs.OnceLemmas.{all_once}
use Rattle.sn_cost_tally.specs.Numbered.{folded_times}
use Rattle.sn_cost_tally.proofs.Weighing.{all_again}

-- ---- a value of a row

-- what holds of all holds of the one at a place
pub all_at : {X : Type 0} (P : X → Type 0) (xs : List X) (i : ℕ) (x : X) → All P xs → slice_get xs i ≡ Some x → P x
all_at P xs i x h is = subst P (get_or_from_slice_get xs i x x is) (h i x (slice_get_within xs i x is))

below_words : (f : AnyFold) (x : ℕ) → any_has f x → x < 2 ^ 64
below_words (folds.SatSum f) x h = let more = pow_mono f.in_range.1 in omega (arith, h, more)
below_words (folds.Max f) x h = let more = pow_mono f.in_range.1 in omega (arith, h, more)
below_words (folds.Min f) x h = let more = pow_mono f.in_range.1 in omega (arith, h, more)
below_words (folds.Or f) x h = let more = pow_mono f.in_range.1 in omega (arith, h, more)

-- a number of a fold is read whole
pub read_whole : (f : AnyFold) (x word column : ℕ) → any_has f x → word ≡ min column (2 ^ 64 - 1) → column ≡ x → word ≡ x
read_whole f x word column had is at = let below = below_words f x had in is ∙ ap (λ n. min n (2 ^ 64 - 1)) at ∙ omega (arith, below)

-- ---- folds

-- a value that comes several times may be folded that often first
pub times_folded : (f : AnyFold) (a v n amount : ℕ) → any_has f a → any_has f v → amount ≡ folded_times (any_step f) (any_unit f) v n → any_step f a amount ≡ fold (any_step f) a (replicate n v)
times_folded f a v n amount so_far had is = ap (any_step f a) is ∙ sym (fold_from (any_laws f) a (replicate n v) so_far (all_again (any_has f) n v had))

-- so far what is folded at a key is a number of the fold
pub folded_had : (f : AnyFold) (places : List ℕ) (value : ℕ) (rows : List Row) (entries : List (Row × ℕ)) (key : Row) → All (λ row. any_has f (slice_index row value)) rows
    → entries ≡ folded same_row (any_step f) (any_unit f) (map (keyed places value) rows) → any_has f (unwrap_or (lookup (same_row key) entries) (any_unit f))
folded_had f places value rows entries key had is = subst (any_has f) (sym (ap (λ es. unwrap_or (lookup (same_row key) es) (any_unit f)) is)) (group_had (any_laws f) places value rows key had)

-- ---- keys and rows

pub keys_short : (places : List ℕ) (rows keys : List Row) → length places < 8 → keys ≡ once same_row (map (columns_at places) rows) → All (λ key. length key < 8) keys
keys_short places rows keys few are =
    let P : Row → Type 0 = λ key. length key < 8 in
    let each : AllByRecursion P (map (columns_at places) rows) =
    all_map P (columns_at places) rows (all_of (λ (row : Row). P (columns_at places row)) (λ row. subst (λ (n : ℕ). n < 8) (sym (length-map places (λ place. slice_index row place))) few) rows) in
    subst (All P) (sym are) (All-from_recursion P (once same_row (map (columns_at places) rows)) (all_once same_row P (map (columns_at places) rows) each))

pub rows_grouped : (g : Grouping) (pairs : List (Row × ℕ)) (entries : List (Row × ℕ)) (rows : List Row) → entries ≡ folded same_row (any_step g.by) (any_unit g.by) pairs → rows ≡ map (λ (e : Row × ℕ). e.0 ++ e.1 ∷ []) entries → rows ≡ grouped g pairs
rows_grouped g pairs entries rows is made =
    made ∙ ap (map (λ (e : Row × ℕ). e.0 ++ e.1 ∷ [])) is
    ∙ map_both (paired (λ k. fold (any_step g.by) (any_unit g.by) (values_at same_row k pairs))) (λ (e : Row × ℕ). e.0 ++ e.1 ∷ []) (once same_row (map (λ (p : Row × ℕ). p.0) pairs))
