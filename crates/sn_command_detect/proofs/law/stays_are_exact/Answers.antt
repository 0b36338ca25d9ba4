use Rattle.sn_command_detect.proofs.LawLemmas as proved
use Rattle.sn_command_detect.proofs.law.stays_are_exact.Goals as goal

pub returns : goal.returns
returns c = λ query path windows rises. proved.exact query path windows rises
