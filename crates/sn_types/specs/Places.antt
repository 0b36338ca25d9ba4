-- to be believed
-- Where the refinement field stands in the rows that come to an operator.
use Rattle.std.specs.Prelude.{ℕ, List, [], ◌∷◌, take, Bool, false, ◌==◌, position, unwrap_or, Option}
use Rattle.std.specs.Option.{option_map}
use Rattle.sn_fields.specs.declared.field.Field.{Field}
use Rattle.sn_fields.specs.Fields.{number_of}
use Rattle.sn_types.specs.declared.typed_op.TExpr.{TExpr}
use Rattle.sn_types.specs.declared.typed_op.TExpr.TheVariants.{Const, Copy, Mask, Shift, Sum, Ratio}
use Rattle.sn_types.specs.declared.typed_op.TOp.{TOp}
use Rattle.sn_types.specs.declared.typed_op.TOp.TheVariants as ops
use Rattle.sn_types.specs.declared.typed_query.TypedBranch.{TypedBranch}

-- an expression copies the column at a place
abbrev pub copies : ℕ → TExpr → Bool
copies p (Const n) = false
copies p (Copy a) = a == p
copies p (Mask a bits) = false
copies p (Shift a k) = false
copies p (Sum a b) = false
copies p (Ratio a k b) = false

-- where a column at a place stands after an operator: a map copies it, and a reduce has it among its keys
abbrev pub place_after : TOp → ℕ → ℕ
place_after (ops.Filter conds) p = p
place_after (ops.Map exprs) p = unwrap_or (position (copies p) exprs) 0
place_after ops.Distinct p = p
place_after (ops.Reduce r) p = unwrap_or (position (λ k. k == p) r.keys) 0

abbrev pub place_along : List TOp → ℕ → ℕ
place_along [] p = p
place_along (op ∷ os) p = place_along os (place_after op p)

-- the place of a field among fields
abbrev pub field_place : Field → List Field → ℕ
field_place f fields = unwrap_or (position (λ g. number_of g == number_of f) fields) 0

-- the place of the refinement field, or of the column that carries it, in the rows that come to an operator of a branch
abbrev pub refine_at : Option Field → TypedBranch → ℕ → Option ℕ
refine_at refined branch i = option_map (λ f. place_along (take i branch.ops) (field_place f branch.fields)) refined
