use Rattle.sn_switch.proofs.Switches.{fits_so, found_so, only_so, none_so, fault_so}
use Rattle.sn_switch.proofs.text.parse.Goals as goal

pub switch_of-requires : goal.switch_of-requires
switch_of-requires c = fits_so _ _ _ c.in-Ok.ensures c.as_slice.ensures

pub returns-in-Ok-switch_of-clause-found : goal.returns-in-Ok-switch_of-clause-found
returns-in-Ok-switch_of-clause-found c = found_so _ _ _ _ _ c.new.ensures c.in-Ok.ensures c.as_slice.ensures c.in-Ok-switch_of.ensures.value

pub returns-in-Ok-switch_of-clause-only : goal.returns-in-Ok-switch_of-clause-only
returns-in-Ok-switch_of-clause-only c s f = only_so _ _ _ _ _ _ c.new.ensures c.in-Ok.ensures c.as_slice.ensures c.in-Ok-switch_of.ensures.value f

pub returns-clause-only : goal.returns-clause-only
returns-clause-only c s f = none_so _ _ _ _ s c.new.ensures c.in-Err.ensures c.answer.ensures f

pub returns-clause-fault : goal.returns-clause-fault
returns-clause-fault c = fault_so c.args.text.now _ _ _ c.new.ensures c.in-Err.ensures c.answer.ensures
