use Rattle.std.proofs.Common.{◌≡◌, ◌++◌, take}
use Rattle.sn_types_faults.proofs.names.push_all.Given as goal

abbrev pub invariant-loop-name : goal.invariant-loop-name
invariant-loop-name l = l.names ≡ l.initial.names ++ take l.name-index l.more
