use Rattle.std.proofs.Common.{◌≡◌, ◌≤◌, ◌++◌, drop, length}
use Rattle.sn_plan_choices.specs.Options.{path_of}
use Rattle.sn_plan_lists.proofs.naming.path_of.Given as goal

abbrev pub invariant-loop-i : goal.invariant-loop-i
invariant-loop-i l = (l.path ++ path_of l.bits (drop l.i l.levels) ≡ path_of l.number l.levels) × (length l.path ≤ l.i)
