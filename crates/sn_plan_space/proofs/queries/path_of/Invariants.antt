use Rattle.std.proofs.Common.{◌≡◌, ◌≤◌, ◌<◌, ◌^◌, ◌+◌, ◌++◌, length, map}
use Rattle.sn_plan_choices.specs.Costs.{entry_in}
use Rattle.sn_plan_choices.specs.Planning.{path_pieces}
use Rattle.sn_plan_space.specs.Known.{known_piece}
use Rattle.sn_plan_space.proofs.queries.path_of.Given as goal

abbrev pub invariant-loop-following : goal.invariant-loop-following
invariant-loop-following l = record {
  done : l.pieces ++ map (known_piece l.s (entry_in l.c)) (path_pieces l.query l.typed.branches l.left l.i l.before l.levels)
      ≡ map (known_piece l.s (entry_in l.c)) (path_pieces l.query l.typed.branches l.m 0 0 l.typed.levels);
  within : l.i + length l.levels ≤ 4;
  below : l.before < 2 ^ l.i;
}

abbrev pub decreases-loop-following : goal.decreases-loop-following
decreases-loop-following l = length l.levels
