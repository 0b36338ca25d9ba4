use Rattle.std.proofs.Common.{length, ◌-◌, ◌≡◌, ◌≤◌, take}
use Rattle.std.specs.Io.KnownBytes.{append_known}
use Rattle.sn_io.proofs.sink.write_all_to.Given as goal

abbrev pub invariant-loop-done : goal.invariant-loop-done
invariant-loop-done g l =
    let S = g.S.Sink in
    record {
      within : l.done ≤ length l.piece;
      front : S.written l.sink ≡ append_known (S.written l.fn.sink) (take l.done l.piece);
      faults : S.faults l.fn.sink ≤ S.faults l.sink;
      empty_takes : S.empty_takes l.fn.sink ≤ S.empty_takes l.sink;
    }

abbrev pub decreases-loop-done : goal.decreases-loop-done
decreases-loop-done g l = length l.piece - l.done
