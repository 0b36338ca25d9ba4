use Rattle.std.proofs.Common.{◌≡◌, ◌+◌, ◌-◌, ◌*◌, ◌^◌, ◌≤◌, drop}
use Rattle.sn_plan_lists.specs.Numbers.{path_number}
use Rattle.sn_plan_lists.proofs.numbers.path_number.Given as goal

abbrev pub invariant-loop-i : goal.invariant-loop-i
invariant-loop-i l = (l.number + l.bit * path_number (drop (l.i - 1) l.levels) l.path ≡ path_number l.levels l.path) × (l.number + 1 ≤ l.bit) × (l.bit ≡ 2 ^ (l.i - 1))
