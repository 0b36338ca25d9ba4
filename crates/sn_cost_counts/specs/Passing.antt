-- serves proofs
-- Rows on their way through the operators of a prefix as contracts see them: those for each list of sizes, and all rows.
use Rattle.std.specs.Prelude.{◌≤◌, List, ◌∷◌, length, replicate, Option, Some, None, if◌then◌else◌}
use Rattle.sn_base.specs.Groups.{Row}
use Rattle.sn_types.specs.Cuts.{cut_after_distinct, filters_ahead, greatest_cut}
use Rattle.sn_types.specs.declared.typed_op.TOp.{TOp}
use Rattle.sn_cost_counts.specs.AnyFlow.{Flow}
use Rattle.sn_cost_counts.specs.Flows.{starting}
use Rattle.sn_cost_counts.specs.Shared.{flows_in}
use Rattle.sn_cost_counts.specs.declared.passing.Passing.{Passing as PassingOf}
use Rattle.sn_cost_counts.specs.declared.passing.Passing.TheVariants.{Together, Marked, Apart}

abbrev pub Passing : Type 0
Passing = PassingOf (List Row)

-- those for each list of sizes
abbrev pub flows_of : Passing → List Flow
flows_of (Together rows more kept) = starting rows ∷ replicate more (starting rows)
flows_of (Marked shared kept) = flows_in shared
flows_of (Apart flows unsplit) = flows.items

-- all rows, where they are there: as long as they're together or shared, or where they're kept
abbrev pub held_by : Passing → Option (List Row)
held_by (Together rows more kept) = Some rows
held_by (Marked shared kept) = Some shared.rows
held_by (Apart flows unsplit) = unsplit

-- what the operators give of all rows, where that is kept
abbrev pub unsplit_of : Passing → Option (List Row)
unsplit_of (Together rows more kept) = if kept then Some rows else None
unsplit_of (Marked shared kept) = if kept then Some shared.rows else None
unsplit_of (Apart flows unsplit) = unsplit

-- these operators may stand after them in a switch: any at first, after the operator at which keys overflowed those that may stand after a
-- distinct or after a reduce, and in the end filters alone
abbrev pub CanFollow : Passing → List TOp → Type 0
CanFollow (Together rows more kept) os = length os ≤ greatest_cut os
CanFollow (Marked shared kept) os = length os ≤ (if shared.distinct then cut_after_distinct os else filters_ahead os)
CanFollow (Apart flows unsplit) os = length os ≤ filters_ahead os
