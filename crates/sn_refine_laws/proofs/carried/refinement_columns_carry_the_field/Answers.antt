use Rattle.sn_refine_laws.proofs.CarriedQueries.{queries_carry}
use Rattle.sn_refine_laws.proofs.carried.refinement_columns_carry_the_field.Goals as goal

pub returns : goal.returns
returns c = queries_carry
