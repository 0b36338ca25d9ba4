use Rattle.std.proofs.Common.{refl}
use Rattle.sn_plan_fit.proofs.LoadLaws.{chain_more, chain_ends}
use Rattle.sn_plan_fit.proofs.loads.add_chain.Goals as goal

pub loop-stage-preserved : goal.loop-stage-preserved
loop-stage-preserved c = λ all e. chain_more c.args.stages.now c.loop-stage.stage-index _ all c.loop-stage-test.true refl (c.loop-stage.invariant all e) (c.add.ensures all e)

pub returns : goal.returns
returns c = λ all e. chain_ends c.args.stages.now c.loop-stage.stage-index all c.loop-stage-test.false (c.loop-stage.invariant all e)
