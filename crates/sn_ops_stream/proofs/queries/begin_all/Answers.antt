use Rattle.std.proofs.Common.{◌+◌, List, [], subst, sym, ◌∙◌}
use Rattle.sn_ops_stream.specs.Streams.{HaveTaken}
use Rattle.sn_ops_stream.specs.declared.query.QueryStream.{QueryStream}
use Rattle.sn_ops_stream.proofs.QueryLemmas.{one_more}
use Rattle.sn_ops_stream.proofs.queries.begin_all.Goals as goal

pub loop-q-preserved : goal.loop-q-preserved
loop-q-preserved c =
    let queries = c.args.t.now.queries in
    let q = c.loop-q.q in
    let begun = c.in_ok-stream.ensures in
    subst (λ (streams : List QueryStream). HaveTaken queries [] 0 (q + 1) streams) (sym c.in_ok-push.ensures.items)
    (one_more queries [] 0 q c.loop-q.streams.items c.in_ok-stream.stream c.loop-q.invariant begun.query (begun.level ∙ c.finest_level.ensures.level) begun.taken)
