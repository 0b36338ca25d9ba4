use Rattle.sn_types.proofs.RefinedLemmas.{refined_alike}
use Rattle.sn_types.proofs.laws.refined_queries_have_field_and_column.Goals as goal

pub returns : goal.returns
returns c = refined_alike
