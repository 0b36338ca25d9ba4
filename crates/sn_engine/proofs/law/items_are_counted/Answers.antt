use Rattle.sn_engine.proofs.Counts.{counted}
use Rattle.sn_engine.proofs.law.items_are_counted.Goals as goal

pub returns : goal.returns
returns c = λ queries closed lanes frames taken. counted queries closed lanes frames taken
