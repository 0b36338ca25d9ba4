use Rattle.std.proofs.Common.{◌≡◌, take}
use Rattle.sn_types.proofs.copies.copy_queries.Given as goal

abbrev pub invariant-loop-query : goal.invariant-loop-query
invariant-loop-query l = l.copied ≡ take l.query-index l.queries
