use Rattle.std.proofs.Common.{drop}
use Rattle.sn_command.specs.Desks.{sunk}
use Rattle.sn_command.specs.Reported.{pieces_text}
use Rattle.sn_command.proofs.ReportedLemmas.{TellsOn}
use Rattle.sn_command.proofs.pieces.tell_pieces.Given as goal

abbrev pub invariant-loop-i : goal.invariant-loop-i
invariant-loop-i g l = TellsOn (pieces_text (drop l.i l.pieces)) (pieces_text l.pieces) (sunk g.E.Sink l.initial.err) (sunk g.E.Sink l.err)
