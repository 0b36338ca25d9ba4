use Rattle.sn_engine_split.proofs.OpenSplit.{open_split}
use Rattle.sn_engine_split.proofs.dropped.open_split_law.Goals as goal

pub returns : goal.returns
returns c = λ window q b level cut depth sizes queries entries ps tuples found t lt within widths le low bag. open_split window q b level cut depth sizes queries entries ps tuples found t lt within widths le low bag
