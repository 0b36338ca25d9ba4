use Rattle.sn_lanes.proofs.PrimeLemmas.{product_is}
use Rattle.sn_lanes.proofs.slots8.times_prime.Goals as goal

pub returns : goal.returns
returns c = product_is c.args.hash c.requires
