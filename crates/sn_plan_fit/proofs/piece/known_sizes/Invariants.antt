use Rattle.std.proofs.Common.{◌≡◌, drop}
use Rattle.sn_plan_fit.specs.Pieces.{strange_size}
use Rattle.sn_plan_fit.proofs.piece.known_sizes.Given as goal

abbrev pub invariant-loop-size : goal.invariant-loop-size
invariant-loop-size l = strange_size l.known (drop l.size-index l.sizes) ≡ strange_size l.known l.sizes
