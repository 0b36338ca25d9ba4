use Rattle.std.proofs.Common.{◌≡◌, ◌++◌, ◌+◌, ◌-◌, ◌*◌, length, drop}
use Rattle.sn_report.specs.Reading.{wides_of}
use Rattle.sn_report.proofs.decode.wides_of.Given as goal

abbrev pub invariant-loop-place : goal.invariant-loop-place
invariant-loop-place l = record {
  long : length l.row ≡ l.place;
  rest : l.row ++ wides_of (l.count - l.place) (drop (8 + 16 * l.place) l.bytes) ≡ wides_of l.count (drop 8 l.bytes);
}
