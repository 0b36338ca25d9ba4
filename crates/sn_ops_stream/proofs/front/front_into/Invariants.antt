use Rattle.sn_ops_stream.specs.Fronts.{IsFront}
use Rattle.sn_ops_stream.proofs.front.front_into.Given as goal

abbrev pub invariant-loop-place : goal.invariant-loop-place
invariant-loop-place l = IsFront l.packets.refined l.packets.level l.packets.fields.now l.ops l.place l.conditions.items
