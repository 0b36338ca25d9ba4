use Rattle.sn_refine_laws.proofs.Items as proved
use Rattle.sn_refine_laws.proofs.law.items_may_be_dropped.Goals as goal

pub returns : goal.returns
returns c = λ keep places ops found carry long. proved.value_filtered keep places ops carry found long
