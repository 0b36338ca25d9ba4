use Rattle.std.proofs.Common.{◌≡◌, List, drop, length, take, ap, ◌∙◌, arith}
use Rattle.sn_pipe.proofs.Fronts.{cut_within}
use Rattle.sn_types.specs.declared.typed_op.TOp.{TOp}
use Rattle.sn_cost_counts.specs.declared.branch_at.BranchAt.{BranchAt}
use Rattle.sn_cost_counts.specs.BranchAt.{asked_branch, prefix_of}
use Rattle.sn_cost_counts.specs.Coming.{ahead}
use Rattle.sn_cost_counts.proofs.branch.parts_of.Goals as goal

pub split_at-requires : goal.split_at-requires
split_at-requires c =
    let at : BranchAt = c.args.at.now in
    let t = at.t.now in
    omega (arith, cut_within t.window_us t.queries at.q at.b t.typed at.has_query at.has_branch, c.max_cut-cut.ensures, ap length c.operators.ensures)

pub returns : goal.returns
returns c =
    let branch = asked_branch c.args.at.now in
    let os : List TOp = c.split_at.result.0.now in
    let are : os ≡ prefix_of branch = c.split_at.ensures.front ∙ ap (take c.max_cut-cut.result) c.operators.ensures ∙ ap (λ n. take n branch.ops) c.max_cut-cut.ensures in
    record {
      front_is = c.split_at-2.ensures.front ∙ ap (λ n. take n os) c.ahead.ensures.value ∙ ap (λ (xs : List TOp). take (ahead xs) xs) are;
      rest_is = c.split_at-2.ensures.back ∙ ap (λ n. drop n os) c.ahead.ensures.value ∙ ap (λ (xs : List TOp). drop (ahead xs) xs) are;
    }
