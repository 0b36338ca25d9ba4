use Rattle.sn_command_check.proofs.NoPrices.{tree_without_prices}
use Rattle.sn_command_check.proofs.law.trees_are_no_prices.Goals as goal

pub returns : goal.returns
returns c = λ text byte cost tree is. tree_without_prices text byte (cost, tree) is
