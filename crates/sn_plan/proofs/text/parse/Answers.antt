use Rattle.sn_plan.proofs.Plans.{found_so, only_so, none_so, fault_so}
use Rattle.sn_plan.proofs.text.parse.Goals as goal

pub returns-in-Ok-clause-found : goal.returns-in-Ok-clause-found
returns-in-Ok-clause-found c = found_so _ _ _ _ _ _ c.new.ensures c.in-Ok.ensures.1 c.in-Ok.ensures.2 c.from.ensures

pub returns-in-Ok-clause-only : goal.returns-in-Ok-clause-only
returns-in-Ok-clause-only c plan byte f = only_so _ _ _ _ _ _ _ _ c.new.ensures c.in-Ok.ensures.1 c.in-Ok.ensures.2 c.from.ensures f

pub returns-in-Err-clause-only : goal.returns-in-Err-clause-only
returns-in-Err-clause-only c plan byte f = none_so _ _ _ _ plan byte c.new.ensures c.in-Err.ensures c.answer.ensures f

pub returns-in-Err-clause-fault : goal.returns-in-Err-clause-fault
returns-in-Err-clause-fault c = fault_so c.args.text.now _ _ _ c.new.ensures c.in-Err.ensures c.answer.ensures
