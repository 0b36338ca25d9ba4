use Rattle.std.proofs.Common.{Ok, refl}
use Rattle.sn_command_texts.proofs.Verdicts.{switch_refused}
use Rattle.sn_command_texts.proofs.texts.judge_switch.Goals as goal

pub returns-in-Ok-clause-answers : goal.returns-in-Ok-clause-answers
returns-in-Ok-clause-answers c = record { found = Ok c.in-Ok.switch; is = c.in-Ok.ensures.found; same = refl }

pub returns-in-Err-clause-answers : goal.returns-in-Err-clause-answers
returns-in-Err-clause-answers c = rw c.switch_refusal.ensures (switch_refused c.args.text.now c.in-Err.fault c.in-Err.ensures.fault)
