use Rattle.std.proofs.Common.{List, [], sym, subst}
use Rattle.sn_base.specs.Groups.{Row}
use Rattle.sn_cost_counts.specs.Coming.{HaveCome}
use Rattle.sn_cost_counts.proofs.coming.Arrivals.new.Goals as goal

pub returns : goal.returns
returns g c = λ level ops stateless. subst (λ (out : List Row). HaveCome level ops [] c.new.result.seen c.new.result.passed out) (sym c.new-2.ensures) (c.new.ensures level ops stateless)
