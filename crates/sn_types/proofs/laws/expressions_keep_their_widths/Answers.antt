use Rattle.sn_types.proofs.RowLemmas.{expr_fits}
use Rattle.sn_types.proofs.laws.expressions_keep_their_widths.Goals as goal

pub returns : goal.returns
returns c = expr_fits
