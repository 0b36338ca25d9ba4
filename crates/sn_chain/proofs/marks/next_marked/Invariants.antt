use Rattle.std.proofs.Common.{◌≤◌, ◌<◌, ◌+◌, ◌*◌}
use Rattle.sn_chain.proofs.MarkLemmas.{NoneBefore}
use Rattle.sn_chain.proofs.marks.next_marked.Given as goal

abbrev pub invariant-loop-at : goal.invariant-loop-at
invariant-loop-at l = record {
  low : l.from ≤ l.at * 64 + l.bit;
  small : l.bit < 64;
  before : NoneBefore l.words l.from (l.at * 64 + l.bit);
}
