use Rattle.sn_pipe.proofs.KeptLaw.{all_kept, open_kept, passing_kept, same_kept}
use Rattle.sn_pipe.proofs.law.pipes_admit_the_kept.Goals as goal

pub returns-clause-all : goal.returns-clause-all
returns-clause-all c = all_kept

pub returns-clause-kept : goal.returns-clause-kept
returns-clause-kept c = same_kept

pub returns-clause-opened : goal.returns-clause-opened
returns-clause-opened c = open_kept

pub returns-clause-passing : goal.returns-clause-passing
returns-clause-passing c = passing_kept
