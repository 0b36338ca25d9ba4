use Rattle.std.proofs.Common.{◌+◌, sym, arith}
use Rattle.sn_prices_bound.proofs.Walks.{known_past}
use Rattle.sn_prices_bound.proofs.walk.after_stage.Goals as goal

pub returns-then-stage-lt32 : goal.returns-then-stage-lt32
returns-then-stage-lt32 c = λ slots is. is.each (c.args.stage + 1) (omega arith)

pub returns-else-stage-lt32 : goal.returns-else-stage-lt32
returns-else-stage-lt32 c = λ slots is. sym (known_past c.args.s.now c.args.p.now (c.args.stage + 1) slots (omega arith))
