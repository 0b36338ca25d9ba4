use Rattle.std.proofs.Common.{take}
use Rattle.sn_lanes_narrow.specs.Asked.{AreAnswersOf}
use Rattle.sn_lanes_narrow.proofs.asked.answer_all.Given as goal

abbrev pub invariant-loop-held : goal.invariant-loop-held
invariant-loop-held l = AreAnswersOf l.tuples (take l.held-index l.answers)
