use Rattle.std.proofs.Common.{◌≡◌, take}
use Rattle.sn_lanes_narrow.specs.Asked.{AreOf}
use Rattle.sn_lanes_narrow.specs.Marks.{marks_of_all}
use Rattle.sn_lanes_narrow.proofs.asked.Asked.ask_all.Given as goal

abbrev pub invariant-loop-condition : goal.invariant-loop-condition
invariant-loop-condition l = record {
  of : AreOf l.tuples l.self;
  passed : l.self.passed.items ≡ marks_of_all (take l.condition-index l.conditions) l.tuples;
}
