use Rattle.std.proofs.Common.{◌≡◌, drop, zip}
use Rattle.std.specs.List.{list_all}
use Rattle.sn_engine.specs.Moving.{same_width}
use Rattle.sn_engine.proofs.moving.same_widths.Given as goal

abbrev pub invariant-loop-place : goal.invariant-loop-place
invariant-loop-place l = list_all same_width (zip (drop l.place l.columns) (drop l.place l.others)) ≡ list_all same_width (zip l.columns l.others)
