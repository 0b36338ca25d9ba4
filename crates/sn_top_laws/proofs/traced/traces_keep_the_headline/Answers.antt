use Rattle.sn_top_laws.proofs.TraceCalls.{traced_prints}
use Rattle.sn_top_laws.proofs.traced.traces_keep_the_headline.Goals as goal

pub returns : goal.returns
returns c = λ schedule nodes switch queries train capture files ending given outcome keeps trace.
    traced_prints c.live_keeps_the_headline.ensures.printed c.live_keeps_the_headline.ensures.only schedule switch queries train capture nodes files outcome trace ending given keeps
