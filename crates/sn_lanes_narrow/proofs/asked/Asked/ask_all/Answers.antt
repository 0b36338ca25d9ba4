use Rattle.std.proofs.Common.{◌<◌, length, arith, ◌∙◌}
use Rattle.sn_lanes_narrow.proofs.MarkLemmas.{marks_step, no_condition}
use Rattle.sn_lanes_narrow.proofs.asked.Asked.ask_all.Goals as goal

pub loop-condition-init : goal.loop-condition-init
loop-condition-init c =
    record {
      of = c.requires;
      passed = c.in_ok-resize.ensures.items ∙ no_condition c.args.tuples.now c.clear.new.self.items c.clear.new.self.len c.clear.ensures.items c.clear.ensures.len;
    }

pub loop-condition-preserved : goal.loop-condition-preserved
loop-condition-preserved c =
    let l = c.loop-condition in
    let within : l.condition-index < length c.args.conditions.now = omega arith in
    record {
      of = c.in_ok-ask.ensures.of;
      passed = marks_step c.args.conditions.now l.condition-index _ c.args.tuples.now l.self.passed.items c.ask.new.self.passed.items within l.invariant.passed c.in_ok-ask.ensures.passed;
    }
