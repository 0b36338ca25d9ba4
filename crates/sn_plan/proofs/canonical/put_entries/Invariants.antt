use Rattle.std.proofs.Common.{◌≡◌, ◌++◌, drop}
use Rattle.sn_plan.specs.Printing.{texts, entry_text}
use Rattle.sn_plan.proofs.canonical.put_entries.Given as goal

abbrev pub invariant-loop-entry : goal.invariant-loop-entry
invariant-loop-entry l = l.out.items ++ texts entry_text (drop l.entry-index l.entries) ≡ l.fn.out.items ++ texts entry_text l.entries
