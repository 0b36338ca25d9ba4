use Rattle.sn_engine_split.proofs.Whole.{query_left}
use Rattle.sn_engine_split.proofs.dropped.whole_queries_are_left.Goals as goal

pub returns : goal.returns
returns c = λ window q level queries ps tuples left right t lt widths l r. query_left window queries q level ps tuples left right t lt widths l r
