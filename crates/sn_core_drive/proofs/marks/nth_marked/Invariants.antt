use Rattle.sn_core_drive.proofs.BitLemmas.{IsAfter}
use Rattle.sn_core_drive.proofs.marks.nth_marked.Given as goal

abbrev pub invariant-loop : goal.invariant-loop
invariant-loop l = IsAfter l.word l.counter l.place
