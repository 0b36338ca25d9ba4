use Rattle.sn_base.proofs.NumberLemmas.{none_kept}
use Rattle.sn_base.proofs.number.U128Number.cleared.Goals as goal

pub returns-else-places-lt128 : goal.returns-else-places-lt128
returns-else-places-lt128 c = none_kept 128 c.args.places c.args.self c.ranges.self.fits c.if-places-lt128.false
