use Rattle.std.proofs.Common.{List, ◌++◌, codes, ℕ, subst}
use Rattle.std.specs.Fmt.{decimal}
use Rattle.sn_command.specs.Desks.{sunk}
use Rattle.sn_command.specs.Reported.{Tells}
use Rattle.sn_command.proofs.lines.tell_node.Goals as goal

pub returns : goal.returns
returns g c =
    subst (λ (name : List ℕ). Tells (codes "sonata: tree " ++ name ++ codes " node " ++ decimal c.args.node ++ codes " want ") c.tell_start.result (sunk g.E.Sink c.args.err.now) (sunk g.E.Sink c.tell_start.new.err)) c.tree_kind-kind.ensures c.tell_start.ensures
