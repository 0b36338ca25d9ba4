use Rattle.sn_multi.proofs.Typed as proved
use Rattle.sn_multi.proofs.law.open_tables_of_many_switches_change_no_answer.Goals as goal

pub returns : goal.returns
returns c = λ window q level queries ps captures left right t lt widths l r. proved.queries_left window q level queries ps captures left right t lt widths l r
