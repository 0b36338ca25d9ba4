use Rattle.std.proofs.Common.{◌∙◌, sym, true, false, arith}
use Rattle.sn_plan_lists.specs.Costs.{is_upto, front_of}
use Rattle.sn_plan_lists.proofs.Bits.{front_more, front_small}
use Rattle.sn_plan_lists.proofs.numbers.front_of.Goals as goal
use Rattle.sn_plan_lists.proofs.numbers.front_of.Goals.{then-is_upto, else-is_upto}

pub loop-known-preserved : goal.loop-known-preserved
loop-known-preserved c =
    let path = c.args.path.now in
    let f = is_upto path c.args.level in
    let all = front_of c.args.levels.now path c.args.level in
    let i = c.loop-known.invariant in
    elim c.if-is_upto.branch [
      | then-is_upto w ↦
          front_more f c.args.levels.now c.loop-known.known-index c.loop-known.front c.loop-known.bit c.if-is_upto.front all true c.loop-known-test.true (sym c.is_upto.ensures ∙ w.if-is_upto.true)
          (let e = w.front-is in omega (arith, e)) i.0 i.1 i.2
      | else-is_upto w ↦
          front_more f c.args.levels.now c.loop-known.known-index c.loop-known.front c.loop-known.bit c.if-is_upto.front all false c.loop-known-test.true (sym c.is_upto.ensures ∙ w.if-is_upto.false)
          (let e = w.front-is in omega (arith, e)) i.0 i.1 i.2
    ]

pub returns-clause-small : goal.returns-clause-small
returns-clause-small c =
    front_small c.loop-known.front c.loop-known.bit c.loop-known.known-index _ c.loop-known.invariant.1 c.loop-known.invariant.2 c.loop-known.auto.known-index-end c.requires
