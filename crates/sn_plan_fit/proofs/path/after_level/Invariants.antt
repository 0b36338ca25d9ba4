use Rattle.std.proofs.Common.{◌≡◌, ◌++◌, List, drop}
use Rattle.sn_plan_fit.specs.Paths.{Place, level_places, are_at}
use Rattle.sn_plan_fit.proofs.path.after_level.Given as goal

abbrev pub invariant-loop-number : goal.invariant-loop-number
invariant-loop-number l = (later : List Place) → are_at (level_places l.level l.number (drop l.number l.branches) ++ later) l.rest ≡ are_at (level_places l.level 0 l.branches ++ later) l.pieces
