use Rattle.sn_cost_seats.proofs.Holding.{held_bag}
use Rattle.sn_cost_seats.proofs.law.distinct_keys_are_held.Goals as goal

pub returns : goal.returns
returns c = λ depth slots g rows some. held_bag depth slots some g rows
