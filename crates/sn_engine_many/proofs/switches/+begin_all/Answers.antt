use Rattle.std.proofs.Common.{◌∷◌, List, sym, subst}
use Rattle.std.specs.List.{AllByRecursion}
use Rattle.sn_engine_lockstep.specs.Sources.{kept_in}
use Rattle.sn_engine_lockstep.specs.declared.driver.Driver.{Driver}
use Rattle.sn_engine_many.specs.Switches.{AreWorking, IsResting, no_tuples}
use Rattle.sn_engine_many.proofs.switches.+begin_all.Goals as goal

pub returns-in_ok-begin_all-clause-work : goal.returns-in_ok-begin_all-clause-work
returns-in_ok-begin_all-clause-work t c = λ queries tables pieces h.
    let was = c.in-Some.ensures.cases.0 in
    let rests = subst (AllByRecursion (IsResting queries tables pieces)) was h in
    subst (λ (ds : List Driver). AreWorking queries tables pieces (kept_in queries c.args.last.now c.args.window) (no_tuples ds) (c.begin_one.new.switch ∷ c.begin_all.new.switches)) (sym was)
    (c.in_ok-begin_one.ensures.work queries tables pieces rests.0, c.in_ok-begin_all.ensures.work queries tables pieces rests.1)
