use Rattle.sn_core_drive.proofs.BitLemmas.{many_marked}
use Rattle.sn_core_drive.proofs.marks.count_marked.Goals as goal

pub returns-clause-count : goal.returns-clause-count
returns-clause-count c = many_marked c.args.word c.ranges.word.fits
