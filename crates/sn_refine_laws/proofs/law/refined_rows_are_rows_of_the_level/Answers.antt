use Rattle.std.specs.Prelude.{suc}
use Rattle.sn_refine_laws.proofs.Windows as proved
use Rattle.sn_refine_laws.proofs.law.refined_rows_are_rows_of_the_level.Goals as goal

pub returns : goal.returns
returns c = λ window q j w queries field windows path t lt is_field ends within. proved.no_false_row window q j w queries field windows path t lt is_field (ends.known (suc j) within) (ends.rising j within)
