use Rattle.std.proofs.Common.{◌≡◌, ◌++◌, drop}
use Rattle.sonata_entries.specs.Table.{list_text}
use Rattle.sonata_entries.proofs.table.push_list.Given as goal

abbrev pub invariant-loop-number : goal.invariant-loop-number
invariant-loop-number l = l.text.items ++ list_text l.between (drop l.number-index l.numbers) ≡ l.fn.text.items ++ list_text l.words l.numbers
