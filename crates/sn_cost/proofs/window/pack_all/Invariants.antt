use Rattle.sn_types.specs.Typed.{query_at}
use Rattle.sn_cost.proofs.Packing.{ArePackedSoFar}
use Rattle.sn_cost.proofs.window.pack_all.Given as goal

abbrev pub invariant-loop-b : goal.invariant-loop-b
invariant-loop-b l = ArePackedSoFar (query_at l.t.queries l.q) l.tuples l.b l.all.items
