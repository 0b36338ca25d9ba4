use Rattle.std.proofs.Common.{arith}
use Rattle.sn_cost.specs.Entries.{trained}
use Rattle.sn_cost.proofs.Built.{all_built, next_built, none_built, query_fresh}
use Rattle.sn_cost.proofs.build.build.Goals as goal

pub add_query-requires-clause-places : goal.add_query-requires-clause-places
add_query-requires-clause-places c =
    let places = c.loop-q.invariant.places in
    omega (arith, places, c.loop-q-test.true, c.queries-q-end.ensures)

pub add_query-requires-clause-fresh : goal.add_query-requires-clause-fresh
add_query-requires-clause-fresh c =
    let a = c.args in
    query_fresh a.s.now a.t.now.queries (trained a.training.now.numbers a.training.now.tuples) c.loop-q.table c.loop-q.q (omega (arith, c.loop-q-test.true, c.queries-q-end.ensures)) c.loop-q.invariant

pub loop-q-init : goal.loop-q-init
loop-q-init c =
    let a = c.args in
    none_built a.s.now a.t.now.queries (trained a.training.now.numbers a.training.now.tuples) c.in_ok-table.table c.in_ok-table.ensures.places c.in_ok-table.ensures.zero

pub loop-q-preserved : goal.loop-q-preserved
loop-q-preserved c =
    let a = c.args in
    next_built a.s.now a.t.now.queries (trained a.training.now.numbers a.training.now.tuples) c.loop-q.table c.add_query.new.table c.loop-q.q c.loop-q.invariant c.in_ok-add_query.ensures

pub returns-clause-places : goal.returns-clause-places
returns-clause-places c = c.loop-q.invariant.places

pub returns-clause-entries : goal.returns-clause-entries
returns-clause-entries c =
    let a = c.args in
    let t = a.t.now in
    all_built a.s.now t.queries (trained a.training.now.numbers a.training.now.tuples) t.window_us c.loop-q.q c.loop-q.table t.typed c.requires.switch (omega (arith, c.loop-q-test.false, c.queries-q-end.ensures)) c.loop-q.invariant
