use Rattle.sn_top_laws.proofs.TraceCalls.{keeps_traced_headline}
use Rattle.sn_top_laws.proofs.traced.runs_of_traces_keep_the_headline.Goals as goal

pub returns : goal.returns
returns c = λ schedule nodes switch queries train capture before status now run.
    keeps_traced_headline c.live_keeps_the_headline.ensures.printed c.live_keeps_the_headline.ensures.only schedule switch queries train capture nodes before status now run
