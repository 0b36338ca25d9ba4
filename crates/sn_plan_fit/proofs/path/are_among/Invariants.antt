use Rattle.std.proofs.Common.{◌≡◌, drop}
use Rattle.std.specs.List.{list_all}
use Rattle.sn_plan_fit.specs.Paths.{is_among}
use Rattle.sn_plan_fit.proofs.path.are_among.Given as goal

abbrev pub invariant-loop-level : goal.invariant-loop-level
invariant-loop-level l = list_all (is_among l.levels) (drop l.level-index l.path) ≡ list_all (is_among l.levels) l.path
