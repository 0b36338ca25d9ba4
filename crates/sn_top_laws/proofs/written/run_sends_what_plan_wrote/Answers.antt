use Rattle.sn_top_laws.proofs.WrittenLemmas.{plan_certified, sends_as_many, sends_cost}
use Rattle.sn_top_laws.proofs.written.run_sends_what_plan_wrote.Goals as goal

pub returns-clause-weighted : goal.returns-clause-weighted
returns-clause-weighted c = λ switch queries train written nodes files later planned ran plan end few kept is.
    sends_cost c.certificates_show_least.ensures switch queries train written nodes files later planned.text few kept (plan_certified switch queries train nodes files planned plan end) ran is

pub returns-clause-unweighted : goal.returns-clause-unweighted
returns-clause-unweighted c = λ switch queries train written nodes files later planned ran plan end few kept is light.
    sends_as_many c.certificates_show_least.ensures switch queries train written nodes files later planned.text few kept (plan_certified switch queries train nodes files planned plan end) ran is light
