use Rattle.std.proofs.Common.{◌≡◌, take, map}
use Rattle.sn_types_faults.specs.Columns.{place_of}
use Rattle.sn_types.proofs.resolve.places_of.Given as goal

abbrev pub invariant-loop-name : goal.invariant-loop-name
invariant-loop-name l = l.places ≡ map (place_of l.columns) (take l.name-index l.names)
