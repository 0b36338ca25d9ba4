-- serves proofs
-- How many pieces paths have.
use Rattle.std.specs.Prelude.{◌≤◌, List, length}
use Rattle.std.specs.List.{AllByRecursion}
use Rattle.sn_plan_space.specs.declared.known.KnownPiece.{KnownPiece}
use Rattle.sn_plan_space.specs.declared.known.KnownQuery.{KnownQuery}

-- no path of a query has more than eight pieces: four levels, and two branches at each
abbrev pub HasFewPieces : KnownQuery → Type 0
HasFewPieces q = AllByRecursion (λ (path : List KnownPiece). length path ≤ 8) q.paths

abbrev pub HaveFewPieces : List KnownQuery → Type 0
HaveFewPieces qs = AllByRecursion HasFewPieces qs
