use Rattle.sn_report.proofs.Cutting.{one_cutting}
use Rattle.sn_report.proofs.cuttings.bytes_are_cut_in_one_way.Goals as goal

pub returns : goal.returns
returns c = one_cutting
