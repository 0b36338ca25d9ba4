use Rattle.std.proofs.Common.{◌≡◌, drop}
use Rattle.sn_types_faults.specs.Walk.{first_fault, query_places}
use Rattle.std.specs.List.{flat_map}
use Rattle.sn_types_faults.proofs.walk.queries_fault.Given as goal

abbrev pub invariant-loop-query : goal.invariant-loop-query
invariant-loop-query l = first_fault (flat_map query_places (drop l.query-index l.queries)) ≡ first_fault (flat_map query_places l.queries)
