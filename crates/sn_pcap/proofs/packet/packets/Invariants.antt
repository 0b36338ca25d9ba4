use Rattle.std.proofs.Common.{◌-◌, List, ◌++◌, length, All}
use Rattle.sn_pcap.specs.declared.packet.Packet.{Packet}
use Rattle.sn_pcap.specs.declared.packet.Ending.{Ending}
use Rattle.sn_pcap.specs.Capture.{Records, IsWithin}
use Rattle.sn_pcap.proofs.packet.packets.Given as goal

abbrev pub invariant-records : goal.invariant-records
invariant-records l = record {
  front : (packets : List Packet) (ending : Ending) → Records l.head l.file l.at packets ending → Records l.head l.file 24 (l.found ++ packets) ending;
  within : All (IsWithin l.file) l.found;
}

abbrev pub decreases-records : goal.decreases-records
decreases-records l = length l.file - l.at
