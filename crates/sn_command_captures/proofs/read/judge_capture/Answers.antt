use Rattle.sn_command_captures.proofs.CaptureLemmas.{judged_whole}
use Rattle.sn_command_captures.proofs.read.judge_capture.Goals as goal

pub returns-clause-judged : goal.returns-clause-judged
returns-clause-judged c =
    judged_whole c.args.number c.args.file c.in-Ok.header c.as_slice.result.now c.of.result c.as_slice.ensures c.in-Ok.ensures.first c.of.ensures
