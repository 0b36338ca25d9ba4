use Rattle.sn_engine_split.proofs.Queries as proved
use Rattle.sn_engine_split.proofs.law.query_values_keep_bags.Goals as goal

pub returns : goal.returns
returns c = λ window q level queries left left' right right' t lt of bag of' bag'. proved.value_bags window queries q level left left' right right' t lt of bag of' bag'
