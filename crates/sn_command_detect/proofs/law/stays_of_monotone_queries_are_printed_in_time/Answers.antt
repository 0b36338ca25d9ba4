use Rattle.sn_command_detect.proofs.LawLemmas as proved
use Rattle.sn_command_detect.proofs.law.stays_of_monotone_queries_are_printed_in_time.Goals as goal

pub returns : goal.returns
returns c = λ window queries entries windows t shape widths rises. proved.in_time window queries entries windows t shape.paths widths rises
