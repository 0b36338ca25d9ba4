use Rattle.sn_top_laws.proofs.WrittenLemmas.{plan_certified, says_yes}
use Rattle.sn_top_laws.proofs.written.check_says_yes_to_what_plan_wrote.Goals as goal

pub returns : goal.returns
returns c = λ switch queries train written nodes files later planned checked plan end few kept is.
    says_yes c.certificates_show_least.ensures switch queries train written nodes files later planned.text few kept (plan_certified switch queries train nodes files planned plan end) checked is
