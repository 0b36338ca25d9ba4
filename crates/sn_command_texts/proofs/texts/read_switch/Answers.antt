use Rattle.std.proofs.lemmas.Result.{err_from_is_err_and}
use Rattle.sn_command.proofs.StageLemmas.{text_refused}
use Rattle.sn_command_texts.proofs.Verdicts.{judged_text, switch_may, switch_once}
use Rattle.sn_command_texts.proofs.texts.read_switch.Goals as goal

pub returns-in_err-text-clause-works : goal.returns-in_err-text-clause-works
returns-in_err-text-clause-works g c = let p = err_from_is_err_and c.from_residual.result c.from_residual.ensures.1 in rw (p.1, p.2) (text_refused c.in_err-text.ensures.works)

pub returns-clause-works : goal.returns-clause-works
returns-clause-works g c = judged_text c.in_ok-text.ensures.works c.as_slice.ensures (switch_once c.as_slice.result.now) (switch_may c.as_slice.result.now) c.judge_switch.ensures.answers
