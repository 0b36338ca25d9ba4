use Rattle.std.proofs.Common.{◌≡◌, take}
use Rattle.sn_emit.specs.Plans.{AreNewLanes, pieces_from}
use Rattle.sn_emit.proofs.making.senders_of.Given as goal

abbrev pub invariant-loop-entry : goal.invariant-loop-entry
invariant-loop-entry l = record { counted : l.q ≡ l.entry-index; lanes : AreNewLanes l.t.queries l.tables (pieces_from 0 (take l.entry-index l.plan.entries)) l.lanes }
