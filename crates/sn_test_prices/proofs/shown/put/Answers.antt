use Rattle.std.proofs.Common.{length}
use Rattle.sn_test_prices.proofs.shown.put.Goals as goal

pub returns : goal.returns
returns c = c.set.ensures.places (length c.args.t.now.queries) c.requires
