use Rattle.sn_table.proofs.ShortRows.{one_fits}
use Rattle.sn_table.proofs.narrow.number_of_one.Goals as goal

pub returns-clause-fits : goal.returns-clause-fits
returns-clause-fits c = one_fits c.args.column c.ranges.column.fits
