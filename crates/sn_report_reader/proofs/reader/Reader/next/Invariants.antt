use Rattle.std.proofs.Common.{◌≡◌, ◌-◌, ◌^◌, IfSome, None, length}
use Rattle.std.specs.FinMap.{get}
use Rattle.sn_io.specs.Counts.{OnlyRises}
use Rattle.sn_io.specs.Inputs.{stated_file}
use Rattle.sn_report_reader.specs.Reading.{Follows, place_of}
use Rattle.sn_report_reader.proofs.reader.Reader.next.Given as goal

abbrev pub invariant-reading : goal.invariant-reading
invariant-reading g l =
    let I = g.I.Inputs in
    record {
      offset : l.self.offset ≡ l.fn.self.offset;
      follows : IfSome (stated_file (I.reported l.fn.files) l.name) (λ file. Follows file l.self);
      unknown : get (I.faults l.fn.files) l.name ≡ None → length l.self.held ≡ 0;
      reported : I.reported l.files ≡ I.reported l.fn.files;
      faults : OnlyRises l.name (I.faults l.fn.files) (I.faults l.files);
    }

abbrev pub decreases-reading : goal.decreases-reading
decreases-reading g l = 2 ^ 30 - place_of l.self
