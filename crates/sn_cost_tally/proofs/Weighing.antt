-- Rows that stand for several each, one more.
use Rattle.std.proofs.Common.{◌≡◌, ℕ, zero, suc, ◌+◌, ◌<◌, ◌≤◌, List, [], ◌∷◌, ◌++◌, All, map, fold, take, length, replicate, true, false, cond, slice_get, slice_index, Option, Some, None, unwrap_or, refl, ap, sym, ◌∙◌, append-nil, append_assoc, arith}
use Rattle.std.specs.List.{AllByRecursion}
use Rattle.std.specs.Map.{lookup}
use Rattle.std.specs.Cmp.Lexicographic.{nat_list_eq_equiv}
use Rattle.std.proofs.lemmas.List.{map-append}
use Rattle.std.proofs.lemmas.List.Elements.{All-from_recursion, recursion_from_All}
use Rattle.sn_base.specs.Folds.{HasBits, capped_sum}
use Rattle.sn_base.specs.Groups.{Row, folded, put_entry, same_row, values_at}
use Rattle.sn_base.proofs.FoldedLemmas.{folded_at, folded_push, same_row_exact, values_push}
use Rattle.sn_base.proofs.Lists.{all_append, all_at, none_some, some_same, take_one}
use Rattle.std.proofs.lemmas.List.Sums.{fold-append}
use Rattle.sn_cost_tally.specs.Counts.{counted, one}
use Rattle.sn_cost_tally.proofs.Repeating.{map_again}
use Rattle.sn_cost_tally.specs.Weighed.{AreWeights, repeated, weighed, weight_in}

-- ---- rows

repeated_more : {X : Type 0} (xs : List X) (ns : List ℕ) (i : ℕ) (x : X) → length ns ≡ length xs → slice_get xs i ≡ Some x → repeated (take (suc i) xs) ns ≡ repeated (take i xs) ns ++ replicate (slice_index ns i) x
repeated_more [] ns i x long is = absurd (none_some is)
repeated_more (y ∷ xs) [] i x long is = absurd cc
repeated_more (y ∷ xs) (n ∷ ns) zero x long is = append-nil (replicate n y) ∙ ap (replicate n) (some_same y x is)
repeated_more (y ∷ xs) (n ∷ ns) (suc i) x long is =
    ap (λ zs. replicate n y ++ zs) (repeated_more xs ns i x (omega (arith, long)) is) ∙ sym (append_assoc (replicate n y) (repeated (take i xs) ns) (replicate (slice_index ns i) x))

-- one row more comes as often as its weight says
pub weighed_more : (rows : List Row) (weights : Option (List ℕ)) (i : ℕ) (row : Row) → AreWeights rows weights → slice_get rows i ≡ Some row → weighed (take (i + 1) rows) weights ≡ weighed (take i rows) weights ++ replicate (weight_in weights i) row
weighed_more rows None i row are is = take_one rows i row is
weighed_more rows (Some weights) i row are is = let next : i + 1 ≡ suc i = omega arith in ap (λ n. repeated (take n rows) weights) next ∙ repeated_more rows weights i row are.0 is

-- and so does what a function gives of it
pub weighed_map : {Y : Type 0} (f : Row → Y) (rows : List Row) (weights : Option (List ℕ)) (i : ℕ) (row : Row) (y : Y) → AreWeights rows weights → slice_get rows i ≡ Some row → y ≡ f row
    → map f (weighed (take (i + 1) rows) weights) ≡ map f (weighed (take i rows) weights) ++ replicate (weight_in weights i) y
weighed_map f rows weights i row y are is of_row =
    let n : ℕ = weight_in weights i in
    let before : List Row = weighed (take i rows) weights in
    ap (map f) (weighed_more rows weights i row are is) ∙ map-append f before (replicate n row) ∙ ap (λ ys. map f before ++ ys) (map_again f n row ∙ ap (replicate n) (sym of_row))

-- there is a weight where there is a row, of at least 1
pub weight_some : (rows : List Row) (weights : Option (List ℕ)) (i : ℕ) → AreWeights rows weights → i < length rows → 1 ≤ weight_in weights i
weight_some rows None i are lt = omega arith
weight_some rows (Some weights) i are lt = let long = are.0 in all_at (λ n. 1 ≤ n) weights i (recursion_from_All (λ n. 1 ≤ n) weights are.1) (omega (arith, long, lt))

pub all_again : {X : Type 0} (P : X → Type 0) (n : ℕ) (x : X) → P x → AllByRecursion P (replicate n x)
all_again P zero x h = tt
all_again P (suc n) x h = (h, all_again P n x h)

all_repeated : {X : Type 0} (P : X → Type 0) (xs : List X) (ns : List ℕ) → AllByRecursion P xs → AllByRecursion P (repeated xs ns)
all_repeated P [] ns h = tt
all_repeated P (x ∷ xs) [] h = tt
all_repeated P (x ∷ xs) (n ∷ ns) h = all_append P (replicate n x) (repeated xs ns) (all_again P n x h.0) (all_repeated P xs ns h.1)

pub all_take : {X : Type 0} (P : X → Type 0) (i : ℕ) (xs : List X) → AllByRecursion P xs → AllByRecursion P (take i xs)
all_take P zero xs h = tt
all_take P (suc i) [] h = tt
all_take P (suc i) (x ∷ xs) h = (h.0, all_take P i xs h.1)

-- what holds of each row holds of the first ones, each as often as it comes
pub all_so_far : (P : Row → Type 0) (rows : List Row) (weights : Option (List ℕ)) (i : ℕ) → All P rows → All P (weighed (take i rows) weights)
all_so_far P rows None i h = All-from_recursion P (take i rows) (all_take P i rows (recursion_from_All P rows h))
all_so_far P rows (Some weights) i h = All-from_recursion P (repeated (take i rows) weights) (all_repeated P (take i rows) weights (all_take P i rows (recursion_from_All P rows h)))

-- ---- folds

put_twice : (es : List (Row × ℕ)) (key : Row) (a b : ℕ) → put_entry same_row (put_entry same_row es key a) key b ≡ put_entry same_row es key b
put_twice [] key a b = rw (nat_list_eq_equiv.refl key) refl
put_twice (e ∷ es) key a b = (elim (same_row key e.0) as (λ c. c ≡ same_row key e.0 → put_entry same_row (cond c ((e.0, a) ∷ es) (e ∷ put_entry same_row es key a)) key b ≡ cond c ((e.0, b) ∷ es) (e ∷ put_entry same_row es key b)) [
  | true ↦ (λ is. rw (sym is) refl)
  | false ↦ (λ is. rw (sym is) (ap (λ rest. e ∷ rest) (put_twice es key a b)))
]) refl

module _ (step : ℕ → ℕ → ℕ) (unit : ℕ) where
  -- what is folded at a key
  abbrev held : List (Row × ℕ) → Row → ℕ
  held pairs key = fold step unit (values_at same_row key pairs)

  -- a pair that comes several times
  pair_again : (pairs : List (Row × ℕ)) (key : Row) (v n : ℕ) → folded same_row step unit (pairs ++ replicate (suc n) (key, v)) ≡ put_entry same_row (folded same_row step unit pairs) key (fold step (held pairs key) (replicate (suc n) v))
  pair_again pairs key v zero = folded_push nat_list_eq_equiv same_row_exact step unit pairs key v
  pair_again pairs key v (suc n) =
      let more : List (Row × ℕ) = pairs ++ (key, v) ∷ [] in
      let grown : held more key ≡ step (held pairs key) v =
      ap (fold step unit) (values_push same_row key key v pairs ∙ ap (λ b. values_at same_row key pairs ++ cond b (v ∷ []) []) (nat_list_eq_equiv.refl key))
      ∙ fold-append step unit (values_at same_row key pairs) (v ∷ []) in
      ap (folded same_row step unit) (sym (append_assoc pairs ((key, v) ∷ []) (replicate (suc n) (key, v))))
      ∙ pair_again more key v n
      ∙ ap (λ (m : ℕ). put_entry same_row (folded same_row step unit more) key (fold step m (replicate (suc n) v))) grown
      ∙ ap (λ es. put_entry same_row es key (fold step (step (held pairs key) v) (replicate (suc n) v))) (folded_push nat_list_eq_equiv same_row_exact step unit pairs key v)
      ∙ put_twice (folded same_row step unit pairs) key (step (held pairs key) v) (fold step (step (held pairs key) v) (replicate (suc n) v))

  -- a key's fold takes its value as often as it comes
  pub pairs_folded : (pairs : List (Row × ℕ)) (entries new : List (Row × ℕ)) (key : Row) (v weight total : ℕ) → 1 ≤ weight → entries ≡ folded same_row step unit pairs
      → total ≡ fold step (unwrap_or (lookup (same_row key) entries) unit) (replicate weight v) → new ≡ put_entry same_row entries key total → new ≡ folded same_row step unit (pairs ++ replicate weight (key, v))
  pairs_folded pairs entries new key v zero total some so_far is now = absurd (omega (arith, some))
  pairs_folded pairs entries new key v (suc n) total some so_far is now =
      now
      ∙ ap (put_entry same_row entries key) (is ∙ ap (λ (m : ℕ). fold step m (replicate (suc n) v)) (ap (λ es. unwrap_or (lookup (same_row key) es) unit) so_far ∙ folded_at nat_list_eq_equiv same_row_exact step unit pairs key))
      ∙ ap (λ es. put_entry same_row es key (fold step (held pairs key) (replicate (suc n) v))) so_far
      ∙ sym (pair_again pairs key v n)

-- ---- counts

ones_added : (a n : ℕ) → HasBits 64 a → fold (capped_sum 64) a (replicate n 1) ≡ capped_sum 64 a n
ones_added a zero had = omega (arith, had)
ones_added a (suc n) had = let rest = ones_added (capped_sum 64 a 1) n (omega (arith, had)) in omega (arith, rest)

-- a key counts as often as it comes
pub key_counted : (keys : List Row) (entries new : List (Row × ℕ)) (key : Row) (weight : ℕ) → 1 ≤ weight → entries ≡ counted keys → HasBits 64 (unwrap_or (lookup (same_row key) entries) 0)
    → new ≡ put_entry same_row entries key (capped_sum 64 (unwrap_or (lookup (same_row key) entries) 0) weight) → new ≡ counted (keys ++ replicate weight key)
key_counted keys entries new key weight some so_far had now =
    let so_many : ℕ = unwrap_or (lookup (same_row key) entries) 0 in
    pairs_folded (capped_sum 64) 0 (map one keys) entries new key 1 weight (capped_sum 64 so_many weight) some so_far (sym (ones_added so_many weight had)) now
    ∙ ap (λ ps. folded same_row (capped_sum 64) 0 (map one keys ++ ps)) (sym (map_again one weight key))
    ∙ ap (folded same_row (capped_sum 64) 0) (sym (map-append one keys (replicate weight key)))
