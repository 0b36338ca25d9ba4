use Rattle.sn_top_laws.proofs.WrittenCalls.{calls_confirm}
use Rattle.sn_top_laws.proofs.written.calls_confirm_what_plan_calls_write.Goals as goal

pub returns : goal.returns
returns c = λ switch queries train written nodes files later names text wrote few kept. calls_confirm c.certificates_show_least.ensures switch queries train written nodes files later names text wrote few kept
