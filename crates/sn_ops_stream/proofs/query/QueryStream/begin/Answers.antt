use Rattle.std.proofs.Common.{arith}
use Rattle.sn_ops.proofs.PacketSteps.{some_branch}
use Rattle.sn_ops_stream.proofs.query.QueryStream.begin.Goals as goal

pub begin-requires-clause-branch : goal.begin-requires-clause-branch
begin-requires-clause-branch c =
    let some = some_branch c.args.t.now.window_us c.args.t.now.queries c.args.q c.args.t.now.typed c.requires.query in
    omega (arith, some)
