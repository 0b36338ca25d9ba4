use Rattle.std.proofs.Common.{◌≡◌, map, take}
use Rattle.sn_engine_many.specs.Shorts.{short_piece}
use Rattle.sn_types.specs.Typed.{query_at}
use Rattle.sn_engine_many.proofs.short.short_pieces.Given as goal

abbrev pub invariant-loop-piece : goal.invariant-loop-piece
invariant-loop-piece l = l.shorts ≡ map (short_piece (query_at l.t.queries l.q)) (take l.piece-index l.pieces)
