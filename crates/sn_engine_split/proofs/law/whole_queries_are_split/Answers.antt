use Rattle.sn_engine_split.proofs.Queries as proved
use Rattle.sn_engine_split.proofs.law.whole_queries_are_split.Goals as goal

pub returns : goal.returns
returns c = λ window q level queries kept tuples left right t lt widths l r. proved.query_split window queries q level kept tuples left right t lt widths l r
