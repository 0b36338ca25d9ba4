use Rattle.std.proofs.Common.{◌≡◌, ◌++◌, drop}
use Rattle.sn_cost.specs.Entries.{front_of}
use Rattle.sonata_entries.proofs.table.levels_of.Given as goal

abbrev pub invariant-loop-level : goal.invariant-loop-level
invariant-loop-level l = l.found ++ front_of l.bits (drop l.level-index l.levels) ≡ front_of l.front l.levels
