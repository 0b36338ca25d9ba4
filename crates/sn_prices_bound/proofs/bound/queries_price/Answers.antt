use Rattle.std.proofs.Common.{◌+◌, ap, arith}
use Rattle.sn_plan_space.specs.Known.{known_query}
use Rattle.sn_prices.specs.Least.{least_queries}
use Rattle.sn_prices_bound.proofs.Sums.{numbered_at, as_many, queries_more, queries_done}
use Rattle.sn_prices_bound.proofs.bound.queries_price.Goals as goal

pub loop-query-preserved : goal.loop-query-preserved
loop-query-preserved c = record {
  value = λ entry all e.
      let k = numbered_at (known_query c.args.s.now entry) all c.args.queries.now c.loop-query.query-index c.query-item.result e c.loop-query-test.true c.query-item.is in
      queries_more c.args.s.now entry c.args.p.now all c.loop-query.query-index c.loop-query.total (c.loop-query.total + c.query_price-total.result)
      (least_queries c.args.s.now entry c.args.p.now 0 all) k.0 k.2 (ap (λ n. c.loop-query.total + n) (c.query_price-total.ensures.value entry (record { query = c.loop-query.query-index; typed = k.0 }) k.1))
      (c.loop-query.invariant.value entry all e);
  most = (let a = c.loop-query.invariant.most in let b = c.query_price-total.ensures.most in omega arith);
}

pub returns-clause-value : goal.returns-clause-value
returns-clause-value c = λ entry all e.
    let long = as_many (known_query c.args.s.now entry) all c.args.queries.now e in
    let over = c.loop-query-test.false in
    queries_done c.args.s.now entry c.args.p.now all c.loop-query.query-index c.loop-query.total (least_queries c.args.s.now entry c.args.p.now 0 all) (omega arith)
    (c.loop-query.invariant.value entry all e)
