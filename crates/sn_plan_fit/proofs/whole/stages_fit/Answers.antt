use Rattle.std.proofs.Common.{◌≡◌, ◌∙◌, sym, arith}
use Rattle.sn_plan_fit.specs.Loads.{load_in}
use Rattle.sn_plan_fit.specs.Pieces.{all_registers}
use Rattle.sn_plan_fit.proofs.FitLaws.{next_stage}
use Rattle.sn_plan_fit.proofs.whole.stages_fit.Goals as goal

pub loop-stage-preserved : goal.loop-stage-preserved
loop-stage-preserved c =
    let registers = all_registers c.args.switch.now.chain c.args.queries.now c.args.entries.now in
    let each = c.plan_loads-loads.ensures.each c.loop-stage.stage (omega (arith, c.loop-stage-test.true, c.requires.few)) in
    let is : c.at.result ≡ load_in registers c.loop-stage.stage = cc (c.at.ensures, each) in
    next_stage c.args.switch.now registers c.loop-stage.stage c.loop-stage-test.true (sym (c.in_ok-stage_fits.ensures registers c.loop-stage.stage c.requires.small is)) ∙ c.loop-stage.invariant
