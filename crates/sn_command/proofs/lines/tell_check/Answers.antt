use Rattle.std.proofs.Common.{List, [], ◌∷◌, ◌++◌, codes, ℕ, subst}
use Rattle.std.specs.Fmt.{decimal}
use Rattle.sn_command.specs.Desks.{sunk}
use Rattle.sn_command.specs.Reported.{Tells}
use Rattle.sn_command.proofs.lines.tell_check.Goals as goal

pub returns : goal.returns
returns g c =
    subst (λ (name : List ℕ). Tells (codes "sonata: plan " ++ name ++ codes " want ") c.tell_pieces.result (sunk g.E.Sink c.args.err.now) (sunk g.E.Sink c.tell_pieces.new.err)) c.misfit_kind.ensures c.tell_pieces.ensures
