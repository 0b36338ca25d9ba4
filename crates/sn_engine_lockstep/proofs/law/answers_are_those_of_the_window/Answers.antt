use Rattle.sn_engine_lockstep.proofs.Earlies.{all_early}
use Rattle.sn_engine_lockstep.proofs.Laws.{answered_count, answered_parts}
use Rattle.sn_engine_lockstep.proofs.law.answers_are_those_of_the_window.Goals as goal

pub returns-clause-parts : goal.returns-clause-parts
returns-clause-parts c = answered_parts

pub returns-clause-count : goal.returns-clause-count
returns-clause-count c = answered_count

pub returns-clause-early : goal.returns-clause-early
returns-clause-early c = all_early
