use Rattle.sn_base.proofs.NumberLemmas.{none_kept}
use Rattle.sn_base.proofs.number.U64Number.cleared.Goals as goal

pub returns-else-places-lt64 : goal.returns-else-places-lt64
returns-else-places-lt64 c = none_kept 64 c.args.places c.args.self c.ranges.self.fits c.if-places-lt64.false
