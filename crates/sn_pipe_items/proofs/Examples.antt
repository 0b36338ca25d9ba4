-- Items and values of small windows, computed.
use Rattle.std.proofs.Common.{◌≡◌, ◌≤◌, ◌<◌, ◌^◌, ◌==◌, ℕ, List, [], ◌∷◌, Bool, filter, refl, slice_index, nat_lt, arith}
use Rattle.sn_base.specs.Bags.{SameBag}
use Rattle.sn_base.specs.Groups.{Row}
use Rattle.sn_base.specs.Operators.{Op, through}
use Rattle.sn_base.specs.Operators.Op.{Filter, Map, Distinct, Reduce}
use Rattle.sn_base.specs.declared.any_fold.AnyFold.{AnyFold}
use Rattle.sn_base.specs.declared.any_fold.AnyFold.TheVariants.{SatSum}
use Rattle.sn_report.specs.Items.{Item}
use Rattle.sn_report.specs.declared.frame.Tag.{Tag}
use Rattle.sn_report.specs.declared.frame.Tag.TheVariants.{At, Partial}
use Rattle.sn_pipe_items.specs.Items.{items}
use Rattle.sn_pipe_items.specs.Left.{left_of}
use Rattle.sn_pipe_items.specs.Value.{value}
use Rattle.sn_pipe_items.proofs.ItemsHadLemmas.{split_any}
use Rattle.sn_pipe_items.proofs.OrderLemmas.{items_bag}

abbrev item : Tag → Row → Item
item tag row = record { tag = tag; row = row }

-- a sum of this many bits
abbrev sum_of : (v : ℕ) → 1 ≤ v → v ≤ 64 → AnyFold
sum_of v some most = SatSum (record { v = v; in_range = (some, most) })

-- the items of a branch in one register of one slot for each stateful operator
abbrev one_slot : ℕ → List Op → List Row → List Item
one_slot cut ops rows = items 1 (λ i. 1) cut ops rows

-- counts of destinations
abbrev counts : List Op
counts = Map (λ row. slice_index row 0 ∷ 1 ∷ []) ∷ Reduce (record { places = 0 ∷ []; value = 1; by = sum_of 16 (omega arith) (omega arith) }) ∷ []

abbrev destinations : List Row
destinations = (1 ∷ []) ∷ (2 ∷ []) ∷ (1 ∷ []) ∷ (2 ∷ []) ∷ (3 ∷ []) ∷ []

-- three rows overflow and one is read out
counted : one_slot 2 counts destinations ≡ item (At 1) (2 ∷ 1 ∷ []) ∷ item (At 1) (2 ∷ 1 ∷ []) ∷ item (At 1) (3 ∷ 1 ∷ []) ∷ item (At 2) (1 ∷ 2 ∷ []) ∷ []
counted = refl

counts_value : value counts (one_slot 2 counts destinations) ≡ (2 ∷ 2 ∷ []) ∷ (3 ∷ 1 ∷ []) ∷ (1 ∷ 2 ∷ []) ∷ []
counts_value = refl

counts_whole : through counts destinations ≡ (1 ∷ 2 ∷ []) ∷ (2 ∷ 2 ∷ []) ∷ (3 ∷ 1 ∷ []) ∷ []
counts_whole = refl

-- destinations, each once
abbrev kinds : List Op
kinds = Map (λ row. slice_index row 0 ∷ []) ∷ Distinct ∷ []

kinds_items : one_slot 2 kinds destinations ≡ item (At 2) (1 ∷ []) ∷ item (At 1) (2 ∷ []) ∷ item (At 1) (2 ∷ []) ∷ item (At 1) (3 ∷ []) ∷ []
kinds_items = refl

-- sources of a destination, with both stateful operators in the switch and an overflow at the distinct
abbrev sources : Op → AnyFold → List Op → List Op
sources pairs by rest = Map (λ row. row) ∷ Distinct ∷ pairs ∷ Reduce (record { places = 0 ∷ []; value = 1; by = by }) ∷ rest

abbrev spread : List Op
spread = sources (Map (λ row. slice_index row 0 ∷ 1 ∷ [])) (sum_of 16 (omega arith) (omega arith)) (Filter (λ row. nat_lt 1 (slice_index row 1)) ∷ [])

abbrev pairs : List Row
pairs = (9 ∷ 1 ∷ []) ∷ (9 ∷ 2 ∷ []) ∷ []

spread_items : one_slot 5 spread pairs ≡ item (At 1) (9 ∷ 2 ∷ []) ∷ item (Partial 3) (9 ∷ 1 ∷ []) ∷ []
spread_items = refl

spread_value : value spread (one_slot 5 spread pairs) ≡ (9 ∷ 2 ∷ []) ∷ []
spread_value = refl

-- a sum that stays at its greatest
abbrev capped : List Op
capped = sources (Map (λ row. slice_index row 0 ∷ 9 ∷ [])) (sum_of 4 (omega arith) (omega arith)) []

capped_items : one_slot 4 capped pairs ≡ item (At 1) (9 ∷ 2 ∷ []) ∷ item (Partial 3) (9 ∷ 9 ∷ []) ∷ []
capped_items = refl

capped_value : value capped (one_slot 4 capped pairs) ≡ (9 ∷ 15 ∷ []) ∷ []
capped_value = refl

-- the law at this branch: its premises can be met
spread_law : SameBag (value spread (one_slot 5 spread pairs)) (through spread pairs)
spread_law =
    split_any 1 (λ i. 1) spread 5 pairs (one_slot 5 spread pairs) tt
    ((pow_above, λ a h passes. tt), ((pow_above, λ a h passes. tt), tt))
    (items_bag 1 (λ i. 1) 5 spread pairs tt)
  where
    pow_above : 1 < 2 ^ 16
    pow_above = omega arith

-- ---- items that are left

-- the first column has this number, before and after each operator
abbrev first_is : ℕ → ℕ → Row → Bool
first_is n i row = slice_index row 0 == n

-- of the counts of destination 2 both rows that overflowed are left, and they give its count
counts_left : left_of (first_is 2) (one_slot 2 counts destinations) ≡ item (At 1) (2 ∷ 1 ∷ []) ∷ item (At 1) (2 ∷ 1 ∷ []) ∷ []
counts_left = refl

counts_left_value : value counts (left_of (first_is 2) (one_slot 2 counts destinations)) ≡ through counts (filter (first_is 2 0) destinations)
counts_left_value = refl

-- a part stays with its destination, and goes with it
spread_left : left_of (first_is 9) (one_slot 5 spread pairs) ≡ one_slot 5 spread pairs
spread_left = refl

spread_dropped : left_of (first_is 8) (one_slot 5 spread pairs) ≡ []
spread_dropped = refl
