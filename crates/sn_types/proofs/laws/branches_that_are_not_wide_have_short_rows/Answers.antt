use Rattle.sn_types.proofs.KindLemmas.{short_rows_of}
use Rattle.sn_types.proofs.laws.branches_that_are_not_wide_have_short_rows.Goals as goal

pub returns : goal.returns
returns c = short_rows_of
