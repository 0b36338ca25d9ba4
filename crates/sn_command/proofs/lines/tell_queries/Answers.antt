use Rattle.std.proofs.Common.{List, [], ◌∷◌, ◌++◌, codes, ℕ, subst}
use Rattle.std.specs.Fmt.{decimal}
use Rattle.sn_command.specs.Desks.{sunk}
use Rattle.sn_command.specs.Lines.{query_kind}
use Rattle.sn_command.specs.Reported.{Tells}
use Rattle.sn_command.proofs.lines.tell_queries.Goals as goal

pub returns : goal.returns
returns g c =
    subst (λ (n : ℕ). Tells (codes "sonata: queries " ++ query_kind c.args.fault.kind ++ codes " line " ++ decimal n ++ 10 ∷ []) c.tell_place.result (sunk g.E.Sink c.args.err.now) (sunk g.E.Sink c.tell_place.new.err)) c.from.ensures
    (subst (λ (name : List ℕ). Tells (codes "sonata: queries " ++ name ++ codes " line " ++ decimal c.from.result ++ 10 ∷ []) c.tell_place.result (sunk g.E.Sink c.args.err.now) (sunk g.E.Sink c.tell_place.new.err)) c.query_kind-kind.ensures c.tell_place.ensures)
