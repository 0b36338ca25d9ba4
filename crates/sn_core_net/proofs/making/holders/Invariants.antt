use Rattle.std.proofs.Common.{◌≡◌, ◌++◌, length, map}
use Rattle.std.specs.Vec.Iter.{into_iter_items, into_iter_len}
use Rattle.sn_core_net.specs.Holders.{with_ring}
use Rattle.sn_core_net.proofs.making.holders.Given as goal

abbrev pub invariant-loop-sender : goal.invariant-loop-sender
invariant-loop-sender l = record {
  rest : l.yielded ++ into_iter_items l.sender-iterator ≡ into_iter_items l.initial.sender-iterator;
  count : into_iter_len l.sender-iterator ≡ length (into_iter_items l.sender-iterator);
  lanes : l.lanes ≡ map (with_ring l.room) l.yielded;
}
