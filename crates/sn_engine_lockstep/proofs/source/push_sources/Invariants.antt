use Rattle.std.proofs.Common.{◌≡◌, ◌++◌, map, take}
use Rattle.sn_engine_lockstep.specs.Sources.{source_for}
use Rattle.sn_engine_lockstep.proofs.source.push_sources.Given as goal

abbrev pub invariant-loop-piece : goal.invariant-loop-piece
invariant-loop-piece l = l.sources ≡ l.initial.sources ++ map (source_for l.q l.path) (take l.piece-index l.pieces)
