use Rattle.sn_base.proofs.NumberLemmas.{none_left}
use Rattle.sn_base.proofs.number.U64Number.shifted.Goals as goal

pub returns-else-places-lt64 : goal.returns-else-places-lt64
returns-else-places-lt64 c = none_left 64 c.args.places c.args.self c.ranges.self.fits c.if-places-lt64.false
