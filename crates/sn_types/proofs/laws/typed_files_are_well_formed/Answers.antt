use Rattle.sn_types.proofs.WellFormedLemmas.{well_formed}
use Rattle.sn_types.proofs.laws.typed_files_are_well_formed.Goals as goal

pub returns : goal.returns
returns c = well_formed
