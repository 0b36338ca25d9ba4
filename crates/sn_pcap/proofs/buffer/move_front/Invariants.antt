use Rattle.std.proofs.Common.{◌≡◌, take, drop}
use Rattle.sn_pcap.proofs.buffer.move_front.Given as goal

abbrev pub invariant-loop-place : goal.invariant-loop-place
invariant-loop-place l = record {
  moved : take l.place l.bytes ≡ take l.place (drop l.start l.fn.bytes);
  rest : drop l.place l.bytes ≡ drop l.place l.fn.bytes;
}
