use Rattle.std.proofs.Common.{◌≡◌, ◌++◌, ◌+◌, ◌-◌, ◌*◌, length, drop}
use Rattle.sn_report.specs.Reading.{words_of}
use Rattle.sn_report.proofs.decode.words_of.Given as goal

abbrev pub invariant-loop-place : goal.invariant-loop-place
invariant-loop-place l = record {
  long : length l.row ≡ l.place;
  rest : l.row ++ words_of (l.count - l.place) (drop (8 + 8 * l.place) l.bytes) ≡ words_of l.count (drop 8 l.bytes);
}
