-- serves proofs
-- Rows on their way as contracts see them, of either kind.
use Rattle.std.specs.Prelude.{List}
use Rattle.sn_base.specs.Groups.{Row}
use Rattle.sn_cost_counts.specs.declared.flow.Flow.{Flow as FlowOf}

abbrev pub Flow : Type 0
Flow = FlowOf (List Row)
