use Rattle.std.proofs.Common.{◌≡◌, ◌++◌, ◌∷◌, [], take, map}
use Rattle.sn_cost_tally.specs.Numbered.{zipped}
use Rattle.sn_cost_tally.proofs.groups.rows_of.Given as goal

abbrev pub invariant-loop-place : goal.invariant-loop-place
invariant-loop-place g l = l.out ≡ map (λ e. e.0 ++ e.1 ∷ []) (take l.place (zipped l.keys l.numbers))
