-- serves proofs
-- Where operators can be evaluated at rows.
use Rattle.std.specs.Prelude.{ℕ, ◌*◌, ◌≤◌, List, [], ◌∷◌, ◌++◌, map, length}
use Rattle.std.specs.List.{AllByRecursion}
use Rattle.sn_base.specs.AnyFold.{any_has}
use Rattle.sn_base.specs.Groups.{Row, columns_at}
use Rattle.sn_ops.specs.Flow.{AllFit, Fits}
use Rattle.sn_types.specs.declared.typed_op.TOp.{TOp}
use Rattle.sn_types.specs.declared.typed_op.TOp.TheVariants as ops
use Rattle.sn_types.specs.Values.{value_of}
use Rattle.sn_cost_counts.specs.AnyFlow.{Flow}
use Rattle.sn_windows.specs.Blocks.{most_records}

-- operators can be evaluated at a row and at what comes of it, one after another
abbrev pub Takes : ℕ → List TOp → Row → Type 0
Takes level [] row = Unit {0}
Takes level (ops.Filter conds ∷ os) row = Fits (ops.Filter conds) (row ∷ []) × Takes level os row
Takes level (ops.Map exprs ∷ os) row = Fits (ops.Map exprs) (row ∷ []) × Takes level os (map (λ e. value_of e row) exprs)
Takes level (ops.Distinct ∷ os) row = Takes level os row
Takes level (ops.Reduce r ∷ os) row = Fits (ops.Reduce r) (row ∷ []) × ((a : ℕ) → any_has r.fold a → Takes level os (columns_at r.keys row ++ a ∷ []))

-- Rows after this many operators that those ahead can be evaluated at: as few as a window has, and at each operator no more
-- were sent.
pub record CanGo (level passed : ℕ) (ahead : List TOp) (f : Flow) : Type 0 where
  pub sent : f.sent ≤ passed * most_records
  pub few : length f.rows ≤ most_records
  pub takes : AllByRecursion (Takes level ahead) f.rows

pub record AllGo (level passed : ℕ) (ahead : List TOp) (flows : List Flow) : Type 0 where
  pub operators : AllFit level ahead []
  pub each : AllByRecursion (CanGo level passed ahead) flows
