use Rattle.sn_command_texts.proofs.Verdicts.{one_plan, one_queries, one_switch}
use Rattle.sn_command_texts.proofs.law.texts_have_one_verdict.Goals as goal

pub returns-clause-queries : goal.returns-clause-queries
returns-clause-queries c = one_queries

pub returns-clause-switch : goal.returns-clause-switch
returns-clause-switch c = one_switch

pub returns-clause-plan : goal.returns-clause-plan
returns-clause-plan c = one_plan
