use Rattle.std.proofs.Common.{◌≡◌, ◌+◌, ◌-◌, ◌≤◌, take, length, vec_len, IfSome, None}
use Rattle.std.specs.FinMap.{get}
use Rattle.sn_io.specs.Counts.{OnlyRises}
use Rattle.sn_io.specs.Inputs.{stated_file}
use Rattle.sn_io.proofs.inputs.read_whole.Given as goal

abbrev pub invariant-loop-bytes : goal.invariant-loop-bytes
invariant-loop-bytes g l =
    let I = g.I.Inputs in
    record {
      front : IfSome (stated_file (I.reported l.fn.files) l.name) (λ file. (l.bytes.items ≡ take (vec_len l.bytes) file) × (vec_len l.bytes ≤ length file));
      most : vec_len l.bytes ≤ l.limit;
      reported : I.reported l.files ≡ I.reported l.fn.files;
      faults : OnlyRises l.name (I.faults l.fn.files) (I.faults l.files);
      unknown : get (I.faults l.fn.files) l.name ≡ None → l.files ≡ l.fn.files;
    }

abbrev pub decreases-loop-bytes : goal.decreases-loop-bytes
decreases-loop-bytes g l = l.limit + 1 - vec_len l.bytes
