-- What is known of choices pays what the choices pay.
use Rattle.std.proofs.Common.{◌≡◌, ℕ, suc, ◌+◌, ◌-◌, ◌*◌, ◌^◌, ◌≤◌, ◌<◌, List, [], ◌∷◌, map, length, Bool, true, false, refl, ap, sym, ◌∙◌, arith, inl, inr}
use Rattle.std.specs.Prelude.{◌⊎◌, nat_lt, ◌==◌, ◌%◌, ◌/◌, ◌++◌, if◌then◌else◌}
use Rattle.std.specs.List.{AllByRecursion, sum_by, range_with_len}
use Rattle.std.proofs.Common.{length-append}
use Rattle.sn_base.proofs.Tests.{less}
use Rattle.sn_switch.specs.declared.switch.Switch.{Switch}
use Rattle.sn_types.specs.declared.typed_query.TypedQuery.{TypedQuery}
use Rattle.sn_types.specs.declared.typed_query.TypedBranch.{TypedBranch}
use Rattle.sn_types.specs.Typed.{query_at}
use Rattle.sn_plan_fit.specs.Capped.{capped}
use Rattle.sn_plan_choices.specs.Options.{plain, keyed}
use Rattle.sn_plan_choices.specs.Options as choices
use Rattle.sn_plan_choices.specs.Planning.{PathTask, level_pieces, path_pieces, pieces_of}
use Rattle.sn_plan_space.specs.declared.known.KnownPiece.{KnownPiece}
use Rattle.sn_plan_space.specs.Known.{known_slot, known_piece, known_path, known_query, numbered}
use Rattle.sn_plan_space.specs.Readable.{IsReadable}
use Rattle.sn_prices_grammar.specs.declared.prices.Prices.{Prices}
use Rattle.sn_prices.specs.Limits.{forbidden, limit_price, register_price}
use Rattle.sn_prices.specs.Least.{least_stages}
use Rattle.sn_prices_bound.specs.Walks.{known_stages}
use Rattle.sn_prices_bound.specs.Few.{HasFewPieces, HaveFewPieces}
use Rattle.sn_prices_bound.proofs.Walks.{least_or_same}

-- ---- tables

module _ (s : Switch) (p : Prices) (small : s.bits ≤ 4294967296) where
  too_large : (stage bits : ℕ) → s.bits < bits → register_price s p (record { stage = stage; bits = bits }) ≡ (if nat_lt stage s.stages then forbidden else 0)
  too_large stage bits h =
      ap (λ t. if nat_lt stage s.stages then (if t then forbidden else sum_by (limit_price stage bits) p.limits) else 0) (less s.bits bits h)

  fits_or_not : (bits : ℕ) → (capped bits ≡ bits) ⊎ (s.bits < bits)
  fits_or_not bits = by_place (nat_lt (2 ^ 64 - 1) bits) refl
    where
      by_place : (b : Bool) → nat_lt (2 ^ 64 - 1) bits ≡ b → (capped bits ≡ bits) ⊎ (s.bits < bits)
      by_place true e = inr (let k : 2 ^ 64 - 1 < bits = grind (arith, e) in omega arith)
      by_place false e = inl (let k : bits ≤ 2 ^ 64 - 1 = grind (arith, e) in omega arith)

  same_price : (stage bits : ℕ) → register_price s p (record { stage = stage; bits = capped bits }) ≡ register_price s p (record { stage = stage; bits = bits })
  same_price stage bits = by_case (fits_or_not bits)
    where
      by_case : (capped bits ≡ bits) ⊎ (s.bits < bits) → register_price s p (record { stage = stage; bits = capped bits }) ≡ register_price s p (record { stage = stage; bits = bits })
      by_case (inl e) = ap (λ n. register_price s p (record { stage = stage; bits = n })) e
      by_case (inr h) = too_large stage (capped bits) (omega arith) ∙ sym (too_large stage bits h)

  pub stages_are : (least : ℕ) (slots : List choices.Slot) → known_stages s p least (map known_slot slots) ≡ least_stages s p least slots
  stages_are least [] = refl
  stages_are least (plain ∷ slots) = stages_are (least + 1) slots
  stages_are least (keyed bits ∷ slots) =
      least_or_same forbidden
      (λ k. register_price s p (record { stage = least + k; bits = capped bits }) + known_stages s p (least + k + 1) (map known_slot slots))
      (λ k. register_price s p (record { stage = least + k; bits = bits }) + least_stages s p (least + k + 1) slots) (s.stages - least)
      (λ k. let a = same_price (least + k) bits in let b = stages_are (least + k + 1) slots in omega arith)

-- ---- how many pieces there are

level_count : (query levels : ℕ) (is_first : Bool) (n : ℕ) (bs : List TypedBranch) → length (level_pieces query levels is_first n bs) ≡ length bs
level_count query levels is_first n [] = refl
level_count query levels is_first n (b ∷ bs) = ap suc (level_count query levels is_first (n + 1) bs)

path_count : (query : ℕ) (bs : List TypedBranch) (m i before : ℕ) (ls : List ℕ) → length bs ≤ 2 → length (path_pieces query bs m i before ls) ≤ 2 * length ls
path_count query bs m i before [] few = omega arith
path_count query bs m i before (l ∷ []) few = let k = level_count query (before + 2 ^ i) (before == 0) 0 bs in omega arith
path_count query bs m i before (l ∷ k ∷ ls) few =
    by_test (m % 2 == 1) (path_count query bs (m / 2) (i + 1) (before + 2 ^ i) (k ∷ ls) few) (path_count query bs (m / 2) (i + 1) before (k ∷ ls) few)
  where
    by_test : (b : Bool) → length (path_pieces query bs (m / 2) (i + 1) (before + 2 ^ i) (k ∷ ls)) ≤ 2 * length (k ∷ ls) → length (path_pieces query bs (m / 2) (i + 1) before (k ∷ ls)) ≤ 2 * length (k ∷ ls)
        → length (if b then level_pieces query (before + 2 ^ i) (before == 0) 0 bs ++ path_pieces query bs (m / 2) (i + 1) (before + 2 ^ i) (k ∷ ls)
        else path_pieces query bs (m / 2) (i + 1) before (k ∷ ls)) ≤ 2 * length (l ∷ k ∷ ls)
    by_test true c d =
        let a = length-append (level_pieces query (before + 2 ^ i) (before == 0) 0 bs) (path_pieces query bs (m / 2) (i + 1) (before + 2 ^ i) (k ∷ ls)) in
        let e = level_count query (before + 2 ^ i) (before == 0) 0 bs in omega arith
    by_test false c d = omega arith

map_count : {A B : Type 0} (f : A → B) (xs : List A) → length (map f xs) ≡ length xs
map_count f [] = refl
map_count f (x ∷ xs) = ap suc (map_count f xs)

all_mapped : {A B : Type 0} (P : B → Type 0) (f : A → B) (xs : List A) → ((x : A) → P (f x)) → AllByRecursion P (map f xs)
all_mapped P f [] h = tt
all_mapped P f (x ∷ xs) h = (h x, all_mapped P f xs h)

module _ (s : Switch) (entry : ℕ → ℕ → ℕ → ℕ → ℕ) where
  few_pieces : (t : PathTask) → IsReadable t.typed → HasFewPieces (known_query s entry t)
  few_pieces t is = all_mapped (λ (path : List KnownPiece). length path ≤ 8) (known_path s entry t) (range_with_len 0 (choices.paths t.typed.levels)) (λ m.
      let a = map_count (known_piece s entry) (pieces_of t m) in
      let b = path_count t.query t.typed.branches m 0 0 t.typed.levels is.branches in
      let c = is.levels in omega arith)

  pub all_few : (n : ℕ) (queries : List TypedQuery) → ((q : ℕ) → q < length queries → IsReadable (query_at queries q))
      → HaveFewPieces (map (known_query s entry) (numbered n queries))
  all_few n [] h = tt
  all_few n (q ∷ qs) h = (few_pieces (record { query = n; typed = q }) (h 0 (omega arith)), all_few (n + 1) qs (λ k less. h (suc k) (omega arith)))
