use Rattle.std.proofs.Common.{◌≡◌, ◌-◌, ◌≤◌, ◌^◌, IfSome, is_some, true}
use Rattle.std.specs.FinMap.{get}
use Rattle.sn_io.specs.Inputs.{stated_file}
use Rattle.sn_pcap.specs.Reading.{Follows, HasRead}
use Rattle.sn_test_callers.proofs.captures.count_packets.Given as goal

abbrev pub invariant-packets : goal.invariant-packets
invariant-packets g l =
    let I = g.I.Inputs in
    record {
      follows : IfSome (stated_file (I.reported l.files) l.name) (λ file. Follows file l.reader);
      known : HasRead l.reader → is_some (get (I.faults l.files) l.name) ≡ true;
      same : I.reported l.files ≡ I.reported l.initial.files;
      counted : l.packets ≤ l.reader.offset;
      most : l.reader.offset ≤ 2 ^ 40;
    }

abbrev pub decreases-packets : goal.decreases-packets
decreases-packets g l = 2 ^ 40 - l.reader.offset
