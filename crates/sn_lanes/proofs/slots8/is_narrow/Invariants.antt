use Rattle.std.proofs.Common.{◌≡◌, take, true}
use Rattle.sn_lanes.specs.Words.{are_words}
use Rattle.sn_lanes.proofs.slots8.is_narrow.Given as goal

abbrev pub invariant-loop-place : goal.invariant-loop-place
invariant-loop-place g l = are_words (take l.place (g.R.Columns.columns l.key)) ≡ true
