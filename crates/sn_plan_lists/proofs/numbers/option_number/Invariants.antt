use Rattle.std.proofs.Common.{◌≡◌, ◌+◌, drop}
use Rattle.std.specs.List.{position_or_len}
use Rattle.sn_plan_choices.specs.Options.{options}
use Rattle.sn_plan_lists.specs.Numbers.{is_setting, option_number}
use Rattle.sn_plan_lists.proofs.numbers.option_number.Given as goal

abbrev pub invariant-loop-n : goal.invariant-loop-n
invariant-loop-n l = l.n + position_or_len (is_setting (l.piece.cut, l.piece.slots)) (drop l.n (options l.s l.branch)) ≡ option_number l.s l.branch (l.piece.cut, l.piece.slots)
