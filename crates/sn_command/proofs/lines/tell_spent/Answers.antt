use Rattle.std.proofs.Common.{[], ◌∷◌, ◌++◌, codes, ℕ, subst}
use Rattle.std.specs.Fmt.{decimal}
use Rattle.sn_command.specs.Desks.{sunk}
use Rattle.sn_command.specs.Reported.{Tells}
use Rattle.sn_command.proofs.lines.tell_spent.Goals as goal

pub returns : goal.returns
returns g c =
    subst (λ (n : ℕ). Tells (codes "sonata: budget " ++ decimal n ++ codes " bound " ++ decimal c.args.spent.bound ++ 10 ∷ []) c.tell_two_numbers.result (sunk g.E.Sink c.args.err.now) (sunk g.E.Sink c.tell_two_numbers.new.err)) c.from-nodes.ensures c.tell_two_numbers.ensures
