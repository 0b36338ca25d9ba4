use Rattle.std.proofs.Common.{◌≡◌, map, take}
use Rattle.sn_engine_lockstep.specs.Sources.{prefixes_in}
use Rattle.sn_core_net.proofs.prefixes.sets_of.Given as goal

abbrev pub invariant-loop-source : goal.invariant-loop-source
invariant-loop-source l = l.sets ≡ map (prefixes_in l.t.queries l.parts) (take l.source-index l.sources)
