use Rattle.std.proofs.Common.{◌≡◌, ◌++◌, drop}
use Rattle.sn_plan.specs.Printing.{texts, next_text}
use Rattle.sn_plan.proofs.canonical.put_more.Given as goal

abbrev pub invariant-loop-number : goal.invariant-loop-number
invariant-loop-number l = l.out.items ++ texts next_text (drop l.number-index l.numbers) ≡ l.fn.out.items ++ texts next_text l.numbers
