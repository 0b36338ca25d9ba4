-- Marked rows by their keys' numbers, one more.
use Rattle.std.proofs.Common.{◌≡◌, ℕ, zero, suc, ◌+◌, ◌<◌, ◌≤◌, List, [], ◌∷◌, ◌++◌, All, map, filter, take, length, min, get_or, slice_get, slice_index, slice_index_or, Bool, true, false, cond, Some, unwrap_or, refl, ap, sym, subst, ◌∙◌, arith}
use Rattle.std.specs.List.{AllByRecursion, position_or_len}
use Rattle.std.specs.Map.{lookup}
use Rattle.std.specs.Cmp.Lexicographic.{nat_list_eq_equiv}
use Rattle.std.proofs.lemmas.Option.{slice_get_read}
use Rattle.std.proofs.lemmas.List.Elements.{recursion_from_All}
use Rattle.indexmap.specs.IndexSet.{insert_key}
use Rattle.sn_base.specs.AnyFold.{any_has, any_laws, any_step, any_unit}
use Rattle.sn_base.specs.declared.any_fold.AnyFold.{AnyFold}
use Rattle.sn_base.specs.Folds.{capped_sum}
use Rattle.sn_base.specs.Groups.{Row, folded, same_row, values_at}
use Rattle.sn_base.proofs.FoldLemmas.{fold_had}
use Rattle.sn_base.proofs.FoldedLemmas.{folded_at, same_row_exact}
use Rattle.sn_base.proofs.Lists.{all_filter, all_map, none_some, some_same}
use Rattle.sn_cost_seats.specs.Seats.{row_at, rows_at}
use Rattle.sn_cost_seats.specs.Tallies.{marked}
use Rattle.sn_cost_tally.specs.Counts.{counted}
use Rattle.sn_cost_tally.specs.Numbered.{folded_into, zipped}
use Rattle.sn_cost_tally.proofs.Counting.{counted_had}
use Rattle.sn_cost_tally.proofs.Folding.{so_far_at, value_folded}
use Rattle.sn_cost_tally.proofs.Renumbering.{got_map}
use Rattle.sn_cost_tally.proofs.Weighing.{all_take, key_counted, pairs_folded}

-- ---- marked so far

pub nothing : {X : Type 0} (marks : List Bool) → marked {X = X} marks [] ≡ []
nothing [] = refl
nothing (m ∷ ms) = refl

one_more : {X : Type 0} (ms : List Bool) (ys : List X) (n : ℕ) (x : X) → n < length ms → get_or ms n false ≡ true → slice_get ys n ≡ Some x → marked ms (take (suc n) ys) ≡ marked ms (take n ys) ++ x ∷ []
one_more [] ys n x lt is at = absurd (omega (arith, lt))
one_more (m ∷ ms) [] n x lt is at = absurd (none_some at)
one_more (m ∷ ms) (y ∷ ys) zero x lt is at = ap (λ b. cond b (y ∷ marked ms []) (marked ms [])) is ∙ ap (λ z. z ∷ marked ms []) (some_same y x at) ∙ ap (λ zs. x ∷ zs) (nothing ms)
one_more (m ∷ ms) (y ∷ ys) (suc n) x lt is at =
    ap (λ zs. cond m (y ∷ zs) zs) (one_more ms ys n x (omega (arith, lt)) is at)
    ∙ elim m as (λ b. cond b (y ∷ (marked ms (take n ys) ++ x ∷ [])) (marked ms (take n ys) ++ x ∷ []) ≡ cond b (y ∷ marked ms (take n ys)) (marked ms (take n ys)) ++ x ∷ []) [ true ↦ refl | false ↦ refl ]

none_more : {X : Type 0} (ms : List Bool) (ys : List X) (n : ℕ) → n < length ms → get_or ms n false ≡ false → marked ms (take (suc n) ys) ≡ marked ms (take n ys)
none_more [] ys n lt is = refl
none_more (m ∷ ms) [] zero lt is = refl
none_more (m ∷ ms) [] (suc n) lt is = refl
none_more (m ∷ ms) (y ∷ ys) zero lt is = ap (λ b. cond b (y ∷ marked ms []) (marked ms [])) is ∙ nothing ms
none_more (m ∷ ms) (y ∷ ys) (suc n) lt is = ap (λ zs. cond m (y ∷ zs) zs) (none_more ms ys n (omega (arith, lt)) is)

-- one that is marked, and one that isn't
pub one_marked : {X : Type 0} (marks : List Bool) (xs : List X) (i : ℕ) (x : X) → i < length marks → get_or marks i false ≡ true → slice_get xs i ≡ Some x → marked marks (take (i + 1) xs) ≡ marked marks (take i xs) ++ x ∷ []
one_marked marks xs i x lt is at = let e : i + 1 ≡ suc i = omega arith in ap (λ n. marked marks (take n xs)) e ∙ one_more marks xs i x lt is at

pub one_unmarked : {X : Type 0} (marks : List Bool) (xs : List X) (i : ℕ) → i < length marks → get_or marks i false ≡ false → marked marks (take (i + 1) xs) ≡ marked marks (take i xs)
one_unmarked marks xs i lt is = let e : i + 1 ≡ suc i = omega arith in ap (λ n. marked marks (take n xs)) e ∙ none_more marks xs i lt is

-- where no mark is ahead, or nothing that is marked
pub marked_whole : {X : Type 0} (marks : List Bool) (xs : List X) (i : ℕ) → min (length marks) (length xs) ≤ i → marked marks (take i xs) ≡ marked marks xs
marked_whole [] xs i le = refl
marked_whole (m ∷ ms) [] zero le = refl
marked_whole (m ∷ ms) [] (suc i) le = refl
marked_whole (m ∷ ms) (x ∷ xs) zero le = absurd (omega (arith, le))
marked_whole (m ∷ ms) (x ∷ xs) (suc i) le = ap (λ zs. cond m (x ∷ zs) zs) (marked_whole ms xs i (omega (arith, le)))

pub all_marked : {X : Type 0} (P : X → Type 0) (marks : List Bool) (xs : List X) → AllByRecursion P xs → AllByRecursion P (marked marks xs)
all_marked P [] xs h = tt
all_marked P (m ∷ ms) [] h = tt
all_marked P (m ∷ ms) (x ∷ xs) h = elim m as (λ b. AllByRecursion P (cond b (x ∷ marked ms xs) (marked ms xs))) [ true ↦ (h.0, all_marked P ms xs h.1) | false ↦ all_marked P ms xs h.1 ]

-- ---- a key by its number

pub key_got : (all : List Row) (ns : List ℕ) (i n : ℕ) → i < length ns → n ≡ slice_index_or ns i n → slice_get (rows_at all ns) i ≡ Some (row_at all n)
key_got all ns i n lt is = got_map (row_at all) ns i n (slice_get_read ns (length ns) i n refl lt is)

-- ---- one key more

pub so_far_had : (P : ℕ → Type 0) (key : Row) (unit : ℕ) (ks : List Row) (ns : List ℕ) (number : ℕ) → length ns ≡ length ks → number ≡ position_or_len (same_row key) ks → P (unwrap_or (lookup (same_row key) (zipped ks ns)) unit) → P (slice_index_or ns number unit)
so_far_had P key unit ks ns number long is h = subst P (so_far_at key unit ks ns long ∙ ap (λ m. slice_index_or ns m unit) (sym is)) h

module _ (key : Row) (ks now : List Row) (ns new : List ℕ) (number : ℕ) (long : length ns ≡ length ks) (grown : now ≡ insert_key same_row ks key) (is : number ≡ position_or_len (same_row key) ks) where
  pub counted_one : (so_far : List Row) → new ≡ folded_into (capped_sum 64) 0 ns number 1 → zipped ks ns ≡ counted so_far → zipped now new ≡ counted (so_far ++ key ∷ [])
  counted_one so_far added before =
      key_counted so_far (zipped ks ns) (zipped now new) key 1 (omega arith) before (counted_had so_far (zipped ks ns) key before) (value_folded key (capped_sum 64) 0 1 ks now ns new number long grown is added)

  pub folded_one : (step : ℕ → ℕ → ℕ) (unit v : ℕ) (so_far : List (Row × ℕ)) → new ≡ folded_into step unit ns number v → zipped ks ns ≡ folded same_row step unit so_far → zipped now new ≡ folded same_row step unit (so_far ++ (key, v) ∷ [])
  folded_one step unit v so_far added before =
      pairs_folded step unit so_far (zipped ks ns) (zipped now new) key v 1 (step (unwrap_or (lookup (same_row key) (zipped ks ns)) unit) v) (omega arith) before refl (value_folded key step unit v ks now ns new number long grown is added)

-- ---- folds so far

all_zipped : (P : ℕ → Type 0) (ks : List Row) (ns : List ℕ) → AllByRecursion P ns → AllByRecursion (λ (p : Row × ℕ). P p.1) (zipped ks ns)
all_zipped P [] ns h = tt
all_zipped P (k ∷ ks) [] h = tt
all_zipped P (k ∷ ks) (n ∷ ns) h = (h.0, all_zipped P ks ns h.1)

-- what is folded at a key is a number of the fold
pub marked_had : (f : AnyFold) (value : ℕ) (rows ks : List Row) (marks : List Bool) (i : ℕ) (entries : List (Row × ℕ)) (key : Row) → All (λ row. any_has f (slice_index row value)) rows
    → entries ≡ folded same_row (any_step f) (any_unit f) (marked marks (take i (zipped ks (map (λ row. slice_index row value) rows)))) → any_has f (unwrap_or (lookup (same_row key) entries) (any_unit f))
marked_had f value rows ks marks i entries key had is =
    let P : ℕ → Type 0 = any_has f in
    let values : List ℕ = map (λ row. slice_index row value) rows in
    let pairs : List (Row × ℕ) = marked marks (take i (zipped ks values)) in
    let Q : Row × ℕ → Type 0 = λ p. any_has f p.1 in
    let each : AllByRecursion Q pairs =
    all_marked Q marks (take i (zipped ks values)) (all_take Q i (zipped ks values) (all_zipped P ks values (all_map P (λ row. slice_index row value) rows (recursion_from_All (λ row. any_has f (slice_index row value)) rows had)))) in
    subst P (sym (ap (λ es. unwrap_or (lookup (same_row key) es) (any_unit f)) is ∙ folded_at nat_list_eq_equiv same_row_exact (any_step f) (any_unit f) pairs key))
    (fold_had (any_laws f) (any_unit f) (values_at same_row key pairs) (any_laws f).unit_had (all_map P (λ (p : Row × ℕ). p.1) (filter (λ (p : Row × ℕ). same_row key p.0) pairs) (all_filter Q (λ (p : Row × ℕ). same_row key p.0) pairs each)))
