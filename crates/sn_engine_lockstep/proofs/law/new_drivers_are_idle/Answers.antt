use Rattle.sn_engine_lockstep.proofs.Beginning.{sources_are}
use Rattle.sn_engine_lockstep.proofs.Laws.{new_idle, plan_made}
use Rattle.sn_engine_lockstep.proofs.law.new_drivers_are_idle.Goals as goal

pub returns-clause-idle : goal.returns-clause-idle
returns-clause-idle c = new_idle

pub returns-clause-can : goal.returns-clause-can
returns-clause-can c = plan_made

pub returns-clause-sources : goal.returns-clause-sources
returns-clause-sources c = sources_are
