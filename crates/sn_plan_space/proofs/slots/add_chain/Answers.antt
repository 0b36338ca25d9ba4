use Rattle.std.proofs.Common.{◌-◌, ◌+◌, ◌++◌, ◌∙◌, ap, arith}
use Rattle.std.proofs.Math.ListN.{replicate}
use Rattle.sn_plan_space.specs.declared.known.Slot.TheVariants.{Keyed}
use Rattle.sn_plan_space.proofs.Tables.{chain_more, chain_done}
use Rattle.sn_plan_space.proofs.slots.add_chain.Goals as goal

pub loop-preserved : goal.loop-preserved
loop-preserved c = record {
  done = ap (λ l. l ++ replicate (c.args.depth - (c.loop.counter + 1)) (Keyed c.args.bits)) c.in_ok-push.ensures.ok
      ∙ chain_more c.loop.slots (Keyed c.args.bits) c.args.depth c.loop.counter c.loop-test.true ∙ c.loop.invariant.done;
  within = omega arith;
}

pub returns : goal.returns
returns c = chain_done c.loop.slots (Keyed c.args.bits) c.args.depth c.loop.counter c.loop-test.false ∙ c.loop.invariant.done
