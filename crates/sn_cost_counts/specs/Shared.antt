-- serves proofs
-- Rows that are held once for all lists of sizes, as contracts see them.
use Rattle.std.specs.Prelude.{ℕ, ◌+◌, List, map, Bool, true, false, ◌&&◌, ◌||◌, nat_lt}
use Rattle.sn_base.specs.Groups.{Row}
use Rattle.sn_cost_seats.specs.Tallies.{marked, sum_unmarked}
use Rattle.sn_cost_tally.specs.declared.room.Homes.{Homes}
use Rattle.sn_cost_tally.specs.Places.{homes_among}
use Rattle.sn_types.specs.declared.typed_op.TOp.{TOp}
use Rattle.sn_types.specs.declared.typed_op.TOp.TheVariants as ops
use Rattle.sn_cost_counts.specs.AnyFlow.{Flow}
use Rattle.sn_cost_counts.specs.declared.shared.Shared.{Shared as SharedOf}

abbrev pub Shared : Type 0
Shared = SharedOf (List Row)

abbrev pub is_distinct : TOp → Bool
is_distinct (ops.Filter conds) = false
is_distinct (ops.Map cols) = false
is_distinct ops.Distinct = true
is_distinct (ops.Reduce r) = false

-- what registers of a size make of keys: how often those without a home come, and which have one
abbrev pub homes_at : ℕ → List Row → List ℕ → ℕ → ℕ × List Bool
homes_at depth keys times slots = (sum_unmarked (homes_among depth slots keys) times, homes_among depth slots keys)

-- how many rows overflowed, and which have a home
abbrev pub over_and_marks : Homes → ℕ × List Bool
over_and_marks homes = (homes.over, homes.marks.items)

-- the rows that stay, where the first operator with registers sent this many
abbrev pub staying : Bool → List Row → ℕ × List Bool → Flow
staying distinct rows homes = record { sent = homes.0; rows = marked homes.1 rows; spilled = distinct && nat_lt 0 homes.0; whole = false }

-- those for each list of sizes
abbrev pub flows_in : Shared → List Flow
flows_in shared = map (λ homes. staying shared.distinct shared.rows (over_and_marks homes)) shared.homes.items

-- what goes on after a reduce, following what was sent before
abbrev pub following : Flow → Flow → Flow
following before next = record {
  sent = before.sent + next.sent;
  rows = next.rows;
  spilled = before.spilled || next.spilled;
  whole = before.spilled;
}
