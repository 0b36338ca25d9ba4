use Rattle.std.proofs.Common.{[], ◌∷◌, ◌++◌}
use Rattle.std.specs.Prelude.{codes}
use Rattle.std.specs.Fmt.{decimal}
use Rattle.sn_command.specs.Desks.{sunk}
use Rattle.sn_command.specs.Lines.{tree_kind}
use Rattle.sn_command.proofs.ReportedLemmas.{tells_stops, tells_then}
use Rattle.sn_command.proofs.lines.tell_flaw.Goals as goal

pub returns-then-not-tell_node : goal.returns-then-not-tell_node
returns-then-not-tell_node g c =
    tells_stops (codes "sonata: tree " ++ tree_kind c.args.flaw.kind ++ codes " node " ++ decimal c.args.flaw.node ++ codes " want ") (decimal c.args.flaw.want ++ codes " got " ++ decimal c.args.flaw.got ++ 10 ∷ [])
    (sunk g.E.Sink c.args.err.now) (sunk g.E.Sink c.tell_node.new.err) c.if-not-tell_node.ensures

pub returns : goal.returns
returns g c =
    tells_then (codes "sonata: tree " ++ tree_kind c.args.flaw.kind ++ codes " node " ++ decimal c.args.flaw.node ++ codes " want ") (decimal c.args.flaw.want ++ codes " got " ++ decimal c.args.flaw.got ++ 10 ∷ [])
    (sunk g.E.Sink c.args.err.now) (sunk g.E.Sink c.tell_node.new.err) c.if-not-tell_node.ensures c.tell_want_and_got.result (sunk g.E.Sink c.tell_want_and_got.new.err) c.tell_want_and_got.ensures
