use Rattle.std.proofs.Common.{[], ◌∷◌, ◌++◌}
use Rattle.std.specs.Prelude.{codes}
use Rattle.std.specs.Fmt.{decimal}
use Rattle.sn_command.specs.Desks.{sunk}
use Rattle.sn_command.specs.Lines.{misfit_kind}
use Rattle.sn_command.proofs.ReportedLemmas.{tells_stops, tells_then}
use Rattle.sn_command.proofs.lines.tell_misfit.Goals as goal

pub returns-then-not-tell_check : goal.returns-then-not-tell_check
returns-then-not-tell_check g c =
    tells_stops (codes "sonata: plan " ++ misfit_kind c.args.misfit.kind ++ codes " want ") (decimal c.args.misfit.want ++ codes " got " ++ decimal c.args.misfit.got ++ 10 ∷ [])
    (sunk g.E.Sink c.args.err.now) (sunk g.E.Sink c.tell_check.new.err) c.if-not-tell_check.ensures

pub returns : goal.returns
returns g c =
    tells_then (codes "sonata: plan " ++ misfit_kind c.args.misfit.kind ++ codes " want ") (decimal c.args.misfit.want ++ codes " got " ++ decimal c.args.misfit.got ++ 10 ∷ [])
    (sunk g.E.Sink c.args.err.now) (sunk g.E.Sink c.tell_check.new.err) c.if-not-tell_check.ensures c.tell_want_and_got.result (sunk g.E.Sink c.tell_want_and_got.new.err) c.tell_want_and_got.ensures
