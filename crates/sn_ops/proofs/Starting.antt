-- A row at operators of which the first is a filter or a map.
use Rattle.std.proofs.Common.{◌≡◌, ℕ, List, [], ◌∷◌, ◌++◌, sym, subst}
use Rattle.sn_base.specs.Groups.{Row}
use Rattle.sn_types.specs.declared.typed_op.TOp.{TOp}
use Rattle.sn_ops.specs.SeenStates.{SeenState}
use Rattle.sn_ops.specs.Standing.{Stands}

-- a step of the first operator and of those after it is one of all
pub from_first : (level : ℕ) (ops following : List TOp) (op : TOp) (seen later later' : List SeenState) (s s' : SeenState) (rows : List Row) (row : Row) (out out' : List Row) → ops ≡ op ∷ following → seen ≡ s ∷ later
    → (Stands level (op ∷ following) (s ∷ later) rows out → Stands level (op ∷ following) (s' ∷ later') (rows ++ row ∷ []) out')
    → Stands level ops seen rows out → Stands level ops (s' ∷ later') (rows ++ row ∷ []) out'
from_first level ops following op seen later later' s s' rows row out out' is was step h =
    subst (λ (os : List TOp). Stands level os (s' ∷ later') (rows ++ row ∷ []) out') (sym is)
    (step (subst (λ (ss : List SeenState). Stands level (op ∷ following) ss rows out) was (subst (λ (os : List TOp). Stands level os seen rows out) is h)))
