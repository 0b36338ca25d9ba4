use Rattle.std.proofs.Common.{◌≡◌, map}
use Rattle.std.specs.List.{range_with_len}
use Rattle.sn_plan_choices.specs.Costs.{entry_in}
use Rattle.sn_plan_choices.specs.Within.{least_below}
use Rattle.sn_plan_space.specs.Known.{known_path, capped_path}
use Rattle.sn_plan_space.proofs.queries.query_of.Given as goal

abbrev pub invariant-loop-m : goal.invariant-loop-m
invariant-loop-m l = record {
  some : l.paths ≡ map (known_path l.s (entry_in l.c) (record { query = l.query; typed = l.typed })) (range_with_len 0 l.m);
  least : l.least ≡ least_below (capped_path l.s (entry_in l.c) (record { query = l.query; typed = l.typed })) l.m;
}
