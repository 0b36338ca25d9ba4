use Rattle.std.proofs.Common.{arith}
use Rattle.sn_query_grammar.specs.Limits.{QueryLimits}
use Rattle.sn_types.proofs.Items.{of_item}
use Rattle.sn_types.proofs.typing.typed_queries.Goals as goal

pub typed_query-requires : goal.typed_query-requires
typed_query-requires c = let limits : QueryLimits c.query-item.result = of_item QueryLimits c.args.queries.now c.loop-query.query-index c.query-item.result c.requires (omega arith) c.query-item.is in limits.branches
