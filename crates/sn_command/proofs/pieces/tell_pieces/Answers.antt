use Rattle.std.proofs.Common.{drop, ◌+◌, subst, List, ℕ}
use Rattle.sn_command.specs.Desks.{sunk}
use Rattle.sn_command.specs.Reported.{pieces_text}
use Rattle.sn_command.proofs.ReportedLemmas.{TellsOn, reported_begin, reported_stops, reported_turn, reported_end, pieces_here}
use Rattle.sn_command.proofs.pieces.tell_pieces.Goals as goal

pub loop-i-init : goal.loop-i-init
loop-i-init g c = reported_begin (pieces_text c.args.pieces.now) (sunk g.E.Sink c.args.err.now)

pub returns-then-not-tell_piece : goal.returns-then-not-tell_piece
returns-then-not-tell_piece g c =
    let pieces = c.args.pieces.now in
    let here = pieces_here pieces c.loop-i.i _ c.loop-i-test.true in
    reported_stops _ (pieces_text (drop (c.loop-i.i + 1) pieces)) (pieces_text pieces) (sunk g.E.Sink c.args.err.now) (sunk g.E.Sink c.loop-i.err) (sunk g.E.Sink c.tell_piece.new.err)
    (subst (λ (text : List ℕ). TellsOn text (pieces_text pieces) (sunk g.E.Sink c.args.err.now) (sunk g.E.Sink c.loop-i.err)) here c.loop-i.invariant) c.if-not-tell_piece.ensures

pub loop-i-preserved : goal.loop-i-preserved
loop-i-preserved g c =
    let pieces = c.args.pieces.now in
    let here = pieces_here pieces c.loop-i.i _ c.loop-i-test.true in
    reported_turn _ (pieces_text (drop (c.loop-i.i + 1) pieces)) (pieces_text pieces) (sunk g.E.Sink c.args.err.now) (sunk g.E.Sink c.loop-i.err) (sunk g.E.Sink c.tell_piece.new.err)
    (subst (λ (text : List ℕ). TellsOn text (pieces_text pieces) (sunk g.E.Sink c.args.err.now) (sunk g.E.Sink c.loop-i.err)) here c.loop-i.invariant) c.if-not-tell_piece.ensures

pub returns : goal.returns
returns g c = reported_end c.args.pieces.now c.loop-i.i (sunk g.E.Sink c.args.err.now) (sunk g.E.Sink c.loop-i.err) c.loop-i-test.false c.loop-i.invariant
