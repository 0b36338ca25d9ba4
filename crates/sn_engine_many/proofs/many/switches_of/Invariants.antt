use Rattle.std.proofs.Common.{◌≡◌, ◌≤◌, length}
use Rattle.std.specs.List.{AllByRecursion}
use Rattle.sn_emit.specs.Plans.{pieces_from}
use Rattle.sn_engine_many.specs.Switches.{CanBegin, IsResting}
use Rattle.sn_engine_many.proofs.many.switches_of.Given as goal

abbrev pub invariant-loop : goal.invariant-loop
invariant-loop l = record {
  can : AllByRecursion CanBegin l.switches.items;
  resting : AllByRecursion (IsResting l.t.queries l.tables (pieces_from 0 l.short.entries)) l.switches.items;
  count : length l.switches.items ≡ l.counter;
  within : l.counter ≤ l.count;
}
