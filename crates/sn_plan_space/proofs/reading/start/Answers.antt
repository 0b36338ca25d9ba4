use Rattle.std.proofs.Common.{refl}
use Rattle.sn_plan_space.proofs.Reaching.{starts}
use Rattle.sn_plan_space.proofs.reading.start.Goals as goal

pub returns : goal.returns
returns c = λ s entry queries e. starts s entry queries _ refl refl e refl
