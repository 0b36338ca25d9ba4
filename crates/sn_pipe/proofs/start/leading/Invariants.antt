use Rattle.sn_pipe.specs.Leading.{Leads}
use Rattle.sn_pipe.proofs.start.leading.Given as goal

abbrev pub invariant-loop-place : goal.invariant-loop-place
invariant-loop-place g l = Leads l.level l.stages l.packet l.place
