use Rattle.std.proofs.Common.{Ok, refl}
use Rattle.sn_command_texts.proofs.Verdicts.{plan_refused}
use Rattle.sn_command_texts.proofs.texts.judge_plan.Goals as goal

pub returns-in-Ok : goal.returns-in-Ok
returns-in-Ok c = record { found = Ok c.in-Ok.plan; is = (c.in-Ok.field-0-1, c.in-Ok.ensures.found); same = refl }

pub returns-in-Err : goal.returns-in-Err
returns-in-Err c = rw c.plan_refusal.ensures (plan_refused c.args.text.now c.in-Err.fault c.in-Err.ensures.fault)
