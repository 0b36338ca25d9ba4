use Rattle.std.proofs.Common.{◌≡◌, ◌++◌, ◌∷◌, take}
use Rattle.sn_plan_lists.specs.Numbers.{option_number}
use Rattle.sn_plan_lists.proofs.choosing.add_piece.Given as goal

abbrev pub invariant-loop-stage : goal.invariant-loop-stage
invariant-loop-stage l = l.choices ≡ l.fn.choices ++ option_number l.s l.branch (l.piece.cut, l.piece.slots) ∷ take l.stage-index l.piece.stages
