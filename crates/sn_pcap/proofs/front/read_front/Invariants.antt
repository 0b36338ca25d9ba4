use Rattle.std.proofs.Common.{◌≡◌, ◌-◌, ◌≤◌, take, length, IfSome, None}
use Rattle.std.specs.FinMap.{get}
use Rattle.sn_io.specs.Counts.{OnlyRises}
use Rattle.sn_io.specs.Inputs.{stated_file}
use Rattle.sn_pcap.proofs.front.read_front.Given as goal

abbrev pub invariant-reading : goal.invariant-reading
invariant-reading g l =
    let I = g.I.Inputs in
    record {
      within : l.held ≤ length l.fn.bytes;
      bytes : IfSome (stated_file (I.reported l.fn.files) l.name) (λ file. take l.held l.bytes ≡ take l.held file);
      reported : I.reported l.files ≡ I.reported l.fn.files;
      faults : OnlyRises l.name (I.faults l.fn.files) (I.faults l.files);
      unknown : get (I.faults l.fn.files) l.name ≡ None → l.files ≡ l.fn.files;
      none : get (I.faults l.fn.files) l.name ≡ None → l.held ≡ 0;
    }

abbrev pub decreases-reading : goal.decreases-reading
decreases-reading g l = length l.fn.bytes - l.held
