use Rattle.sn_plan_space.proofs.Sums.{one_register}
use Rattle.sn_plan_space.proofs.totals.add_register.Goals as goal

pub returns-in-Some : goal.returns-in-Some
returns-in-Some c = λ standing more are is. one_register c.args.register c.in-Some.register c.args.loads.now c.add.new.self standing more c.in-Some.is are is c.add.ensures
