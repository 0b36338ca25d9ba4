use Rattle.std.proofs.Common.{arith, length, refl}
use Rattle.sn_cost.proofs.Bits.{top_within}
use Rattle.sn_cost.proofs.Fees.{kept_some}
use Rattle.sn_cost.proofs.fronts.Fronts.kept_after.Goals as goal

pub bounds-levels-ilog2 : goal.bounds-levels-ilog2
bounds-levels-ilog2 c = top_within c.ilog2.result c.args.front (length c.args.levels.now) c.ilog2.ensures.power_le c.requires.front

pub returns : goal.returns
returns c =
    let a = c.args in
    kept_some a.levels.now a.self.now.last a.self.now.sets a.w a.front c.ilog2.result _ (omega (arith, c.if-front-eq0.false)) c.ilog2.ensures.power_le c.ilog2.ensures.next_power_gt c.requires.front refl c.answered_before.ensures
