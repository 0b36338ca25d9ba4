use Rattle.std.proofs.Common.{◌≡◌, ◌+◌, ◌-◌, ◌≤◌, ◌^◌, ℕ, length, IfSome, None}
use Rattle.std.specs.FinMap.{get}
use Rattle.sn_io.specs.Counts.{OnlyRises}
use Rattle.sn_io.specs.Inputs.{stated_file}
use Rattle.sn_command_training.specs.Taking.{IsTaken, MayGoOn}
use Rattle.sn_command_training.proofs.read.take_file.Given as goal

abbrev pub invariant-reading : goal.invariant-reading
invariant-reading g l =
    let I = g.I.Inputs in
    record {
      taken : IfSome (stated_file (I.reported l.fn.files) l.name) (λ file. ((window : ℕ) → IsTaken window file 0 l.fn.taking → IsTaken window file l.place l.taking) × (l.place ≤ length file));
      goes_on : MayGoOn l.taking;
      most : l.place ≤ 2 ^ 30;
      reported : I.reported l.files ≡ I.reported l.fn.files;
      faults : OnlyRises l.name (I.faults l.fn.files) (I.faults l.files);
      unknown : get (I.faults l.fn.files) l.name ≡ None → l.files ≡ l.fn.files;
    }

abbrev pub decreases-reading : goal.decreases-reading
decreases-reading g l = 2 ^ 30 + 1 - l.place
