-- serves proofs
-- A branch that takes tuples, as contracts see it.
use Rattle.std.specs.Prelude.{ℕ, List, Option}
use Rattle.sn_base.specs.Groups.{Row}
use Rattle.sn_fields.specs.declared.field.Field.{Field}
use Rattle.sn_ops.specs.SeenStates.{SeenState}
use Rattle.sn_types.specs.declared.typed_op.TOp.{TOp}

-- what is the same for all its packet rows, its operators, what these have seen, and what came out after them
pub record BranchState : Type 0 where
  pub refined : Option Field
  pub level : ℕ
  pub fields : List Field
  pub ops : List TOp
  pub seen : List SeenState
  pub out : List Row
