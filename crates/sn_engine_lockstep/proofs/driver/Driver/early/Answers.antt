use Rattle.std.proofs.Common.{ap, arith}
use Rattle.sn_engine.specs.Intakes.{total}
use Rattle.sn_engine_lockstep.proofs.driver.Driver.early.Goals as goal

pub early_total-requires : goal.early_total-requires
early_total-requires c = let counted = c.args.self.now.engine.counted in let same = ap total c.deref.ensures.value in omega (arith, counted, same)
