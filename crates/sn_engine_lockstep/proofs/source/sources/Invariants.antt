use Rattle.std.proofs.Common.{◌≡◌, ◌++◌, drop}
use Rattle.sn_engine_lockstep.specs.Sources.{sources_of}
use Rattle.sn_engine_lockstep.proofs.source.sources.Given as goal

abbrev pub invariant-loop-entry : goal.invariant-loop-entry
invariant-loop-entry l = record { counted : l.q ≡ l.entry-index; rest : l.sources ++ sources_of l.q (drop l.entry-index l.entries) ≡ sources_of 0 l.entries }
