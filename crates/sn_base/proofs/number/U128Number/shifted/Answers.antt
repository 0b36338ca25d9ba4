use Rattle.sn_base.proofs.NumberLemmas.{none_left}
use Rattle.sn_base.proofs.number.U128Number.shifted.Goals as goal

pub returns-else-places-lt128 : goal.returns-else-places-lt128
returns-else-places-lt128 c = none_left 128 c.args.places c.args.self c.ranges.self.fits c.if-places-lt128.false
