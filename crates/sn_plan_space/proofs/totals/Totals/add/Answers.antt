use Rattle.std.proofs.Common.{refl}
use Rattle.sn_plan_space.proofs.Sums.{more_taken}
use Rattle.sn_plan_space.proofs.totals.Totals.add.Goals as goal

pub returns : goal.returns
returns c = λ taken more are is. more_taken c.args.self.now _ c.args.took taken more c.add_register.ensures c.saturating_add-self.ensures refl are is
