use Rattle.std.proofs.Common.{◌≡◌, ◌-◌, ◌≤◌, length, IfSome, None}
use Rattle.std.specs.FinMap.{get}
use Rattle.sn_io.specs.Counts.{OnlyRises}
use Rattle.sn_io.specs.Inputs.{stated_file}
use Rattle.sn_pcap.proofs.reader.pass_over.Given as goal

abbrev pub invariant-passing : goal.invariant-passing
invariant-passing g l =
    let I = g.I.Inputs in
    record {
      later : l.from ≤ l.place;
      most : l.place ≤ l.to;
      stand : IfSome (stated_file (I.reported l.fn.files) l.name) (λ file. l.from ≤ length file → l.place ≤ length file);
      reported : I.reported l.files ≡ I.reported l.fn.files;
      faults : OnlyRises l.name (I.faults l.fn.files) (I.faults l.files);
      unknown : get (I.faults l.fn.files) l.name ≡ None → l.files ≡ l.fn.files;
    }

abbrev pub decreases-passing : goal.decreases-passing
decreases-passing g l = l.to - l.place
