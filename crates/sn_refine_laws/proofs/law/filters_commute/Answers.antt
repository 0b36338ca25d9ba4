use Rattle.sn_refine_laws.proofs.Filtering as proved
use Rattle.sn_refine_laws.proofs.law.filters_commute.Goals as goal

pub returns : goal.returns
returns c = λ keep ops p q rows carry. proved.through_filtered keep ops p q carry rows
