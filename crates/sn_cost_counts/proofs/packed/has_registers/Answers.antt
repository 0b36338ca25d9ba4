use Rattle.std.proofs.Common.{ap, length, nat_lt, take, ◌∙◌, arith}
use Rattle.sn_pipe.proofs.Fronts.{cut_within}
use Rattle.sn_types.specs.Cuts.{stateful}
use Rattle.sn_types.specs.Typed.{branch_at}
use Rattle.sn_cost_counts.proofs.packed.has_registers.Goals as goal

pub split_at-requires : goal.split_at-requires
split_at-requires c =
    let t = c.args.t.now in
    omega (arith, cut_within t.window_us t.queries c.args.q c.args.b t.typed c.requires.query c.requires.branch, c.max_cut.ensures, ap length c.operators.ensures)

pub returns : goal.returns
returns c =
    let branch = branch_at c.args.t.now.queries c.args.q c.args.b in
    ap (nat_lt 0) (c.stateful.ensures ∙ ap stateful (c.split_at.ensures.front ∙ ap (take c.max_cut.result) c.operators.ensures ∙ ap (λ n. take n branch.ops) c.max_cut.ensures))
