-- serves proofs
-- Tuples of a window that stand for others, for the counts of a branch.
use Rattle.std.specs.Prelude.{◌≡◌, ℕ, ◌≤◌, ◌<◌, List, length, take, Option, Some, IfSome, Bool, true, nat_lt, slice_get}
use Rattle.std.specs.List.{AllByRecursion}
use Rattle.sn_cost_seats.specs.Seats.{rows_at}
use Rattle.sn_cost_tally.specs.Weighed.{repeated}
use Rattle.sn_cost_tally.specs.declared.firsts.Firsts.{Firsts}
use Rattle.sn_ops.specs.Packets.{packet_rows}
use Rattle.sn_ops.specs.declared.packets.Kept.{Kept}
use Rattle.sn_types.specs.Cuts.{stateful}
use Rattle.sn_types.specs.Typed.{branch_of}
use Rattle.sn_types.specs.declared.typed_query.TypedBranch.{TypedBranch}
use Rattle.sn_types.specs.declared.typed_query.TypedQuery.{TypedQuery}
use Rattle.sn_cost_counts.specs.Alike.{Alike}

-- these tuples, each as often as those for which it stands
abbrev pub stood_for : List (List ℕ) → Firsts → List (List ℕ)
stood_for tuples f = repeated (rows_at tuples f.places.items) f.times.items

-- They stand for as many as there are, and at all levels and by all prefixes the packet rows of these are alike those of all.
pub record StandFor (query : TypedQuery) (b : ℕ) (tuples : List (List ℕ)) (f : Firsts) : Type 0 where
  pub long : length f.times.items ≡ length f.places.items
  pub within : AllByRecursion (λ place. place < length tuples) f.places.items
  pub each : AllByRecursion (λ n. 1 ≤ n) f.times.items
  pub few : length (stood_for tuples f) ≡ length tuples
  pub alike : (level : ℕ) (kept : Option Kept) → Alike (packet_rows query b level kept (stood_for tuples f)) (packet_rows query b level kept tuples)

-- an operator of the longest prefix of a branch has registers
abbrev pub has_registers : TypedBranch → Bool
has_registers branch = nat_lt 0 (stateful (take branch.max_cut branch.ops))

-- It pays to take tuples that are alike for a branch together: the first of them stand for all, and the branch has registers.
pub record PaysFor (query : TypedQuery) (b : ℕ) (tuples : List (List ℕ)) (f : Firsts) : Type 0 where
  pub stand : StandFor query b tuples f
  pub registers : has_registers (branch_of query b) ≡ true

abbrev pub IsPacked : TypedQuery → ℕ → List (List ℕ) → Option Firsts → Type 0
IsPacked query b tuples packed = IfSome packed (PaysFor query b tuples)

-- those for the branches of a query, in their order
pub record ArePacked (query : TypedQuery) (tuples : List (List ℕ)) (packed : List (Option Firsts)) : Type 0 where
  pub long : length packed ≡ length query.branches
  pub each : (b : ℕ) (p : Option Firsts) → slice_get packed b ≡ Some p → IsPacked query b tuples p
