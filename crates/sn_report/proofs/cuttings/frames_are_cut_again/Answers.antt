use Rattle.sn_report.proofs.Cutting.{frames_again}
use Rattle.sn_report.proofs.cuttings.frames_are_cut_again.Goals as goal

pub returns : goal.returns
returns c = frames_again
