use Rattle.std.proofs.Common.{◌∙◌, sym, true, false, arith}
use Rattle.sn_plan_lists.specs.Numbers.{path_number}
use Rattle.sn_plan_lists.proofs.Bits.{number_more, number_done}
use Rattle.sn_plan_lists.proofs.numbers.path_number.Goals as goal
use Rattle.sn_plan_lists.proofs.numbers.path_number.Goals.{then-stands_on, else-stands_on}

pub loop-i-preserved : goal.loop-i-preserved
loop-i-preserved c =
    let path = c.args.path.now in
    let levels = c.args.levels.now in
    let i = c.loop-i.invariant in
    elim c.if-stands_on.branch [
      | then-stands_on w ↦
          number_more path levels c.loop-i.i c.loop-i.number c.loop-i.bit c.if-stands_on.number (path_number levels path) true c.loop-i.auto.i c.loop-i-test.true (sym c.stands_on.ensures ∙ w.if-stands_on.true)
          (let e = w.number-is in omega (arith, e)) i.0 i.1 i.2
      | else-stands_on w ↦
          number_more path levels c.loop-i.i c.loop-i.number c.loop-i.bit c.if-stands_on.number (path_number levels path) false c.loop-i.auto.i c.loop-i-test.true (sym c.stands_on.ensures ∙ w.if-stands_on.false)
          (let e = w.number-is in omega (arith, e)) i.0 i.1 i.2
    ]

pub returns : goal.returns
returns c = number_done c.args.path.now c.args.levels.now c.loop-i.i c.loop-i.number c.loop-i.bit c.loop-i-test.false c.loop-i.invariant.0
