use Rattle.std.proofs.lemmas.Nat.{pow_pos}
use Rattle.sn_table.specs.Narrow.{width_of, base_of, number_of}
use Rattle.std.proofs.Common.{refl}
use Rattle.sn_table.proofs.Digits.{number_back}
use Rattle.sn_table.proofs.NarrowKeys.{held_back}
use Rattle.sn_table.proofs.narrow.numbers_stand_for_rows.Goals as goal

pub returns-clause-rows : goal.returns-clause-rows
returns-clause-rows c = λ columns row h. held_back columns (number_of columns row) row (record { narrow = h; number_is = refl })

pub returns-clause-numbers : goal.returns-clause-numbers
returns-clause-numbers c = λ columns number h. number_back (base_of columns) columns number (pow_pos (width_of columns)) h
