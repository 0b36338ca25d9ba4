use Rattle.std.proofs.Common.{arith}
use Rattle.sn_types.proofs.Facts.{few_branches}
use Rattle.sn_cost.proofs.rows.add_branch.Goals as goal

pub add_counts-requires-clause-branch : goal.add_counts-requires-clause-branch
add_counts-requires-clause-branch c =
    let t = c.args.t.now in
    let most = few_branches t.window_us t.queries c.args.q t.typed c.requires.query in
    omega (arith, most, c.requires.branch)
