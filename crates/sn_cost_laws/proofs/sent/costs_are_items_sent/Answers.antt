use Rattle.sn_cost_laws.proofs.Plans.{plan_priced, trained_priced, unweighted_cost}
use Rattle.sn_cost_laws.proofs.sent.costs_are_items_sent.Goals as goal

pub returns-clause-counted : goal.returns-clause-counted
returns-clause-counted c = λ s queries given entry entries rising counted fits. plan_priced s queries given entry entries rising counted fits

pub returns-clause-trained : goal.returns-clause-trained
returns-clause-trained c = λ s queries given entries rising fits. trained_priced s queries given entries rising fits

pub returns-clause-unweighted : goal.returns-clause-unweighted
returns-clause-unweighted c = λ s queries given entries light. unweighted_cost s queries given entries light
