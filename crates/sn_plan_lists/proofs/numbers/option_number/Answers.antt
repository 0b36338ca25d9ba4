use Rattle.std.proofs.Common.{arith}
use Rattle.sn_plan_lists.proofs.Bits.{option_found, option_further}
use Rattle.sn_plan_lists.proofs.numbers.option_number.Goals as goal

pub returns-then-has_option-clause-value : goal.returns-then-has_option-clause-value
returns-then-has_option-clause-value c =
    option_found c.args.s.now c.args.branch.now (c.args.piece.now.cut, c.args.piece.now.slots) c.loop-n.n c.branch_option.result c.has_option.result
    (omega (arith, c.loop-n-test.true, c.branch_options-count.ensures.count)) c.branch_option.ensures.value c.branch_option.ensures.few c.has_option.ensures c.loop-n.invariant c.if-has_option.true

pub loop-n-preserved : goal.loop-n-preserved
loop-n-preserved c =
    option_further c.args.s.now c.args.branch.now (c.args.piece.now.cut, c.args.piece.now.slots) c.loop-n.n c.branch_option.result c.has_option.result
    (omega (arith, c.loop-n-test.true, c.branch_options-count.ensures.count)) c.branch_option.ensures.value c.branch_option.ensures.few c.has_option.ensures c.loop-n.invariant c.if-has_option.false
