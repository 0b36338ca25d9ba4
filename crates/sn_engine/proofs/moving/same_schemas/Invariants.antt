use Rattle.std.proofs.Common.{◌≡◌, drop, zip}
use Rattle.std.specs.List.{list_all}
use Rattle.sn_engine.specs.Moving.{same_both}
use Rattle.sn_engine.proofs.moving.same_schemas.Given as goal

abbrev pub invariant-loop-place : goal.invariant-loop-place
invariant-loop-place l = list_all same_both (zip (drop l.place l.schemas) (drop l.place l.others)) ≡ list_all same_both (zip l.schemas l.others)
