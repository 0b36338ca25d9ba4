use Rattle.std.proofs.Common.{◌≡◌, take}
use Rattle.sn_engine_many.specs.Shorts.{short_entries}
use Rattle.sn_engine_many.proofs.short.short_plan.Given as goal

abbrev pub invariant-loop-entry : goal.invariant-loop-entry
invariant-loop-entry l = record { counted : l.q ≡ l.entry-index; made : l.entries ≡ short_entries l.t.queries 0 (take l.entry-index l.plan.entries) }
