use Rattle.std.proofs.lemmas.Result.{err_from_is_err_and}
use Rattle.sn_plan_grammar.specs.declared.plan.Plan.{Plan}
use Rattle.sn_command.proofs.StageLemmas.{named_may, text_refused}
use Rattle.sn_command_texts.proofs.Verdicts.{judged_text, plan_may, plan_once}
use Rattle.sn_command_texts.proofs.texts.read_plan.Goals as goal

pub returns-in_err-text : goal.returns-in_err-text
returns-in_err-text g c = let p = err_from_is_err_and c.from_residual.result c.from_residual.ensures.1 in rw (p.1, p.2) (text_refused c.in_err-text.ensures.works)

pub returns : goal.returns
returns g c = judged_text c.in_ok-text.ensures.works c.as_slice.ensures (plan_once c.as_slice.result.now) (named_may 0 (plan_may Plan)) c.judge_plan.ensures
