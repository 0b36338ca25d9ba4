use Rattle.sn_windows.proofs.CountLemmas.{is_numbered}
use Rattle.sn_windows.proofs.law.numbers_are_over_all_records.Goals as goal

pub returns : goal.returns
returns c = is_numbered
