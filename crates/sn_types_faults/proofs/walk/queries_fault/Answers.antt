use Rattle.std.proofs.Common.{arith, sym, ◌∙◌}
use Rattle.sn_types_faults.specs.Walk.{query_places}
use Rattle.sn_types_faults.proofs.WalkLemmas.{found_here, none_here}
use Rattle.sn_types_faults.proofs.walk.queries_fault.Goals as goal

pub returns-in-Some : goal.returns-in-Some
returns-in-Some c = found_here query_places c.args.queries.now c.loop-query.query-index c.query-item.result c.in-Some.found (omega arith) c.query-item.is (sym c.in_ok-fault.ensures ∙ c.in-Some.is) c.loop-query.invariant

pub loop-query-preserved : goal.loop-query-preserved
loop-query-preserved c = none_here query_places c.args.queries.now c.loop-query.query-index c.query-item.result (omega arith) c.query-item.is (sym c.in_ok-fault.ensures ∙ c.in-None.is) c.loop-query.invariant
