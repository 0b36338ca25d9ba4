use Rattle.sn_detect.proofs.LookLemmas.{stays_are}
use Rattle.sn_detect.proofs.OneList.{one_list}
use Rattle.sn_detect.specs.Finding.{stays_of}
use Rattle.sn_detect.specs.Stays.{HeldIn, ReportedIn}
use Rattle.sn_detect.proofs.law.windows_have_one_list_of_stays.Goals as goal

pub returns-clause-are : goal.returns-clause-are
returns-clause-are c = λ looks rise. stays_are looks rise

pub returns-clause-one : goal.returns-clause-one
returns-clause-one c = λ looks stays rise are. one_list (HeldIn looks) (ReportedIn looks) stays (stays_of looks) are (stays_are looks rise)
