-- serves proofs
-- Tables that grow entry by entry.
use Rattle.std.specs.Prelude.{◌≡◌, ℕ, ◌+◌, ◌*◌, ◌≤◌, ◌<◌, ◌^◌, List, map, Bool, nat_eq, nat_lt, slice_index, Option, if◌then◌else◌}
use Rattle.std.specs.List.{AllByRecursion}
use Rattle.sn_switch.specs.declared.switch.Switch.{Switch}
use Rattle.sn_types.specs.declared.typed_query.TypedQuery.{TypedQuery}
use Rattle.sn_types.specs.Typed.{branch_of}
use Rattle.sn_plan_choices.specs.declared.costs.CostTable.{CostTable}
use Rattle.sn_plan_choices.specs.Costs.{HasPlaces, IsPlace, entry_in}
use Rattle.sn_cost_counts.specs.Counts.{counts_of}
use Rattle.sn_ops.specs.Packets.{packet_rows}
use Rattle.sn_ops.specs.declared.packets.Kept.{Kept}
use Rattle.sn_windows.specs.Blocks.{most_records}

abbrev pub Entries : Type 0
Entries = ℕ → ℕ → ℕ → ℕ → ℕ

-- a number where a test holds, and else 0
abbrev pub where_so : Bool → ℕ → ℕ
where_so b n = if b then n else 0

-- each entry of a table has grown by this
pub record Adds (old new : CostTable) (more : Entries) : Type 0 where
  pub grown : (q prefix b option : ℕ) → IsPlace old q prefix b option → entry_in new q prefix b option ≡ entry_in old q prefix b option + more q prefix b option
  pub places : (queries : ℕ) → HasPlaces old queries → HasPlaces new queries

-- the entries of a branch at a front have room for the counts of one more window, and for this fee
abbrev pub HasRoom : CostTable → ℕ → ℕ → ℕ → ℕ → Type 0
HasRoom table q prefix b fee = (option : ℕ) → option < 256 → entry_in table q prefix b option + fee + 13 * most_records ≤ 2 ^ 56

abbrev pub AreSmall : List ℕ → Type 0
AreSmall counts = AllByRecursion (λ n. n ≤ 13 * most_records) counts

-- counts, each with a fee
abbrev pub with_fee : ℕ → List ℕ → List ℕ
with_fee fee counts = map (λ n. n + fee) counts

-- the counts of one branch, at a front
abbrev pub of_counts : ℕ → ℕ → ℕ → List ℕ → Entries
of_counts q prefix b counts q' prefix' b' option =
    where_so (nat_eq q q') (where_so (nat_eq prefix prefix') (where_so (nat_eq b b') (slice_index counts option)))

-- the counts of a branch in a window, of which these tuples are kept
abbrev pub kept_counts : Switch → TypedQuery → ℕ → Option Kept → List (List ℕ) → ℕ → List ℕ
kept_counts s query level kept tuples b = counts_of (branch_of query b) level s.chain s.slots (packet_rows query b level kept tuples)

-- the counts of the first n branches
abbrev pub of_branches : ℕ → ℕ → ℕ → (ℕ → List ℕ) → Entries
of_branches q prefix n counts q' prefix' b option =
    where_so (nat_eq q q') (where_so (nat_eq prefix prefix') (where_so (nat_lt b n) (slice_index (counts b) option)))
