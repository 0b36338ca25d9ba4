use Rattle.std.proofs.Common.{refl}
use Rattle.sn_cost_counts.proofs.Arrivals.{none_come}
use Rattle.sn_cost_counts.proofs.coming.Reached.new.Goals as goal

pub returns : goal.returns
returns c = λ level ops stateless. none_come level ops 0 _ _ refl refl refl stateless
