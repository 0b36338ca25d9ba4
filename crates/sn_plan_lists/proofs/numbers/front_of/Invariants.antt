use Rattle.std.proofs.Common.{◌≡◌, ◌+◌, ◌*◌, ◌^◌, ◌≤◌, drop}
use Rattle.sn_plan_lists.specs.Costs.{bits_of, is_upto, front_of}
use Rattle.sn_plan_lists.proofs.numbers.front_of.Given as goal

abbrev pub invariant-loop-known : goal.invariant-loop-known
invariant-loop-known l =
    (l.front + l.bit * bits_of (is_upto l.path l.level) (drop l.known-index l.levels) ≡ front_of l.levels l.path l.level) × (l.front + 1 ≤ l.bit) × (l.bit ≡ 2 ^ l.known-index)
