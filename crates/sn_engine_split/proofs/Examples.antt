-- Places of a refinement column, computed.
use Rattle.std.proofs.Common.{◌≡◌, List, [], ◌∷◌, map, take, refl, arith}
use Rattle.sn_base.specs.declared.any_fold.AnyFold.TheVariants.{SatSum}
use Rattle.sn_types.specs.declared.typed_op.TExpr.TheVariants.{Const, Copy}
use Rattle.sn_types.specs.declared.typed_op.TOp.{TOp}
use Rattle.sn_types.specs.declared.typed_op.TOp.TheVariants.{Distinct, Map, Reduce}
use Rattle.sn_types.specs.Places.{place_along}

-- sources of a destination, where the packet rows have the source and then the destination
abbrev spread : List TOp
spread = Map (Copy 1 ∷ Copy 0 ∷ []) ∷ Distinct ∷ Map (Const 1 ∷ Copy 0 ∷ []) ∷ Reduce (record { keys = 1 ∷ []; value = 0; fold = SatSum (record { v = 16; in_range = (omega arith, omega arith) }) }) ∷ []

-- where the destination stands in the rows that come to each operator, and in those after the last one
destinations : map (λ i. place_along (take i spread) 1) (0 ∷ 1 ∷ 2 ∷ 3 ∷ 4 ∷ []) ≡ 1 ∷ 0 ∷ 0 ∷ 1 ∷ 0 ∷ []
destinations = refl
