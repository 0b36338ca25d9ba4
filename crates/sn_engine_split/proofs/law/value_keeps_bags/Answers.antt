use Rattle.sn_engine_split.proofs.Typed as proved
use Rattle.sn_engine_split.proofs.law.value_keeps_bags.Goals as goal

pub returns : goal.returns
returns c = λ window q b level queries found others t lt within of bag. proved.bags window q b level queries found others t lt within of bag
