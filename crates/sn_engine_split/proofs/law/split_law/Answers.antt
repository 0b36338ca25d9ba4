use Rattle.sn_engine_split.proofs.Typed as proved
use Rattle.sn_engine_split.proofs.law.split_law.Goals as goal

pub returns : goal.returns
returns c = λ window q b level cut depth sizes queries kept tuples found t lt within widths le bag. proved.split window q b level cut depth sizes queries kept tuples found t lt within widths le bag
