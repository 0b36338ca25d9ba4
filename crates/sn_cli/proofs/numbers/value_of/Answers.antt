use Rattle.std.proofs.Common.{◌<◌, ◌+◌, ◌*◌, ◌-◌, get_or, arith}
use Rattle.sn_cli.proofs.NumberLemmas.{value_past}
use Rattle.sn_cli.proofs.numbers.value_of.Goals as goal

pub returns-then-value-from : goal.returns-then-value-from
returns-then-value-from c =
    let past : c.args.most < c.loop-digit.value * 10 + (get_or c.args.digits.now c.loop-digit.digit-index 0 - 48) = let is = c.if-value-from.true in let is_low = c.if-digit-lt48.false in omega (arith, c.from.ensures, c.from-in-loop-digit.ensures) in
    value_past c.args.most c.loop-digit.value c.loop-digit.digit-index c.args.digits.now c.loop-digit-test.true past c.loop-digit.invariant.value
