use Rattle.std.proofs.Common.{◌≡◌, take, map}
use Rattle.sn_types.specs.Typing.{typed_query}
use Rattle.sn_types.proofs.typing.typed_queries.Given as goal

abbrev pub invariant-loop-query : goal.invariant-loop-query
invariant-loop-query l = l.typed ≡ map typed_query (take l.query-index l.queries)
