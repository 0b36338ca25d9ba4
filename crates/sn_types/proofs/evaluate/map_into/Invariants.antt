use Rattle.std.proofs.Common.{◌≡◌, length, take, map}
use Rattle.sn_types.specs.Values.{value_of}
use Rattle.sn_types.proofs.evaluate.map_into.Given as goal

abbrev pub invariant-loop-place : goal.invariant-loop-place
invariant-loop-place g l = record {
  long : length (g.R.Columns.columns l.out) ≡ length l.cols;
  made : take l.place (g.R.Columns.columns l.out) ≡ map (λ e. value_of e (g.C.Columns.columns l.row)) (take l.place l.cols);
}
