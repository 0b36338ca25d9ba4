use Rattle.sn_prices_search.proofs.writable.writable.Goals as goal

pub returns : goal.returns
returns c = record { scale = c.some.ensures; few = c.in_ok-limits.ensures.few; limits = c.in_ok-limits.ensures.fine }
