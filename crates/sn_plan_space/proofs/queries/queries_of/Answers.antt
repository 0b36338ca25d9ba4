use Rattle.std.proofs.Common.{map}
use Rattle.sn_plan_choices.specs.Costs.{entry_in}
use Rattle.sn_plan_space.specs.Known.{known_query, numbered}
use Rattle.sn_plan_space.proofs.Making.{query_more}
use Rattle.sn_plan_space.proofs.queries.queries_of.Goals as goal

pub loop-n-preserved : goal.loop-n-preserved
loop-n-preserved c =
    query_more c.args.s.now (entry_in c.args.c.now) c.loop-n.n c.index-queries-n.result c.args.queries.now c.in_ok-query_of.field-0 c.loop-n.known c.push.new.self
    (map (known_query c.args.s.now (entry_in c.args.c.now)) (numbered 0 c.args.queries.now)) c.loop-n-test.true c.index-queries-n.is c.in_ok-query_of.ensures c.in_ok-push.ensures.ok c.loop-n.invariant
