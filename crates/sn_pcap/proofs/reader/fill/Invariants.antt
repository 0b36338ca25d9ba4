use Rattle.std.proofs.Common.{◌≡◌, ◌-◌, take, length, IfSome, None}
use Rattle.std.specs.FinMap.{get}
use Rattle.sn_io.specs.Counts.{OnlyRises}
use Rattle.sn_io.specs.Inputs.{stated_file}
use Rattle.sn_pcap.specs.Reading.{HoldsAt}
use Rattle.sn_pcap.proofs.reader.fill.Given as goal

abbrev pub invariant-filling : goal.invariant-filling
invariant-filling g l =
    let I = g.I.Inputs in
    record {
      kept : take (length l.fn.buffer) l.buffer ≡ l.fn.buffer;
      holds : IfSome (stated_file (I.reported l.fn.files) l.name) (λ file. HoldsAt file l.offset l.fn.buffer → HoldsAt file l.offset l.buffer);
      reported : I.reported l.files ≡ I.reported l.fn.files;
      faults : OnlyRises l.name (I.faults l.fn.files) (I.faults l.files);
      unknown : get (I.faults l.fn.files) l.name ≡ None → l.files ≡ l.fn.files;
      same : get (I.faults l.fn.files) l.name ≡ None → l.buffer ≡ l.fn.buffer;
    }

abbrev pub decreases-filling : goal.decreases-filling
decreases-filling g l = l.want - length l.buffer
