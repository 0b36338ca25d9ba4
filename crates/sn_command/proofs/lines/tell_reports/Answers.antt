use Rattle.std.proofs.Common.{List, [], ◌∷◌, ◌++◌, codes, ℕ, subst}
use Rattle.std.specs.Fmt.{decimal}
use Rattle.sn_command.specs.Desks.{sunk}
use Rattle.sn_command.specs.Reported.{Tells}
use Rattle.sn_command.proofs.lines.tell_reports.Goals as goal

pub returns : goal.returns
returns g c =
    subst (λ (name : List ℕ). Tells (codes "sonata: reports " ++ name ++ codes " byte " ++ decimal c.args.fault.at ++ 10 ∷ []) c.tell_place.result (sunk g.E.Sink c.args.err.now) (sunk g.E.Sink c.tell_place.new.err)) c.report_kind-kind.ensures c.tell_place.ensures
