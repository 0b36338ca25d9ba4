use Rattle.std.proofs.Common.{◌≡◌, ◌++◌, map, drop}
use Rattle.sn_plan_choices.specs.Costs.{entry_in}
use Rattle.sn_plan_choices.specs.Planning.{level_pieces}
use Rattle.sn_plan_space.specs.Known.{known_piece}
use Rattle.sn_plan_space.proofs.make.add_level.Given as goal

abbrev pub invariant-loop-n : goal.invariant-loop-n
invariant-loop-n l =
    l.pieces ++ map (known_piece l.s (entry_in l.c)) (level_pieces l.at.query l.at.levels l.at.is_first l.n (drop l.n l.branches))
    ≡ l.fn.pieces ++ map (known_piece l.s (entry_in l.c)) (level_pieces l.at.query l.at.levels l.at.is_first 0 l.branches)
