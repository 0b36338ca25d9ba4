use Rattle.std.proofs.Common.{◌≡◌, map}
use Rattle.std.specs.List.{range_with_len}
use Rattle.sn_plan_choices.specs.Costs.{entry_in}
use Rattle.sn_plan_choices.specs.Within.{least_below}
use Rattle.sn_plan_choices.specs.Planning.{entry_of}
use Rattle.sn_plan_space.specs.Known.{known_option}
use Rattle.sn_plan_space.specs.Made.{task_of}
use Rattle.sn_plan_space.proofs.make.piece_of.Given as goal

abbrev pub invariant-loop-n : goal.invariant-loop-n
invariant-loop-n l = record {
  some : l.options ≡ map (known_option l.s (entry_in l.c) (task_of l.at l.branch)) (range_with_len 0 l.n);
  least : l.least ≡ least_below (entry_of l.s (entry_in l.c) (task_of l.at l.branch)) l.n;
}
