use Rattle.std.proofs.Common.{◌≡◌, ◌++◌}
use Rattle.std.specs.List.{flat_map}
use Rattle.sn_gen.specs.Generated.{draws_before, first_packets, number_after, record_bytes}
use Rattle.sn_gen.proofs.capture.push_packets.Given as goal

abbrev pub invariant-loop-i : goal.invariant-loop-i
invariant-loop-i l = record {
  file_now : l.file.items ≡ l.fn.file.items ++ flat_map record_bytes (first_packets l.fn.number l.i);
  draws_now : l.draws.number ≡ number_after l.fn.number (draws_before l.i);
}
