use Rattle.sn_cost_seats.proofs.Numbering.{once_numbers, times_numbers}
use Rattle.sn_cost_seats.proofs.law.numbers_stand_for_keys.Goals as goal

pub returns-clause-once : goal.returns-clause-once
returns-clause-once c = once_numbers

pub returns-clause-times : goal.returns-clause-times
returns-clause-times c = times_numbers
