use Rattle.std.proofs.Common.{◌≡◌, ℕ, List, drop, length, map, take, ap, sym, subst, ◌∙◌, arith}
use Rattle.sn_base.specs.Groups.{Row}
use Rattle.sn_base.specs.Operators.{through}
use Rattle.sn_base.proofs.Lists.{some_same}
use Rattle.sn_ops.specs.Flow.{AllFit}
use Rattle.sn_ops.specs.Packets.{packet_rows}
use Rattle.sn_ops.proofs.Branches.{branch_fit, branch_of_end}
use Rattle.sn_pipe.proofs.Fronts.{cut_within}
use Rattle.sn_types.specs.declared.typed_op.TOp.{TOp}
use Rattle.sn_types.specs.declared.typed_query.TypedBranch.{TypedBranch}
use Rattle.sn_types.specs.Typed.{branch_at, end_columns, query_at}
use Rattle.sn_types.specs.Values.{op_at}
use Rattle.sn_types.proofs.RowsAfter.{AreOf}
use Rattle.sn_cost_counts.proofs.Unsplit.{fit_rest, through_rest}
use Rattle.sn_cost_counts.proofs.branch.counts_and_rows.Goals as goal

-- the operators after a cut go on with what those before it gave
gone_on : (level n : ℕ) (os rest : List TOp) (rows unsplit out : List Row) → rest ≡ drop n os → unsplit ≡ through (map (op_at level) (take n os)) rows → out ≡ through (map (op_at level) rest) unsplit → out ≡ through (map (op_at level) os) rows
gone_on level n os rest rows unsplit out following before is =
    is ∙ ap (λ (xs : List TOp). through (map (op_at level) xs) unsplit) following ∙ ap (through (map (op_at level) (drop n os))) before ∙ through_rest level n os rows

pub split_at-requires : goal.split_at-requires
split_at-requires g c =
    let t = c.args.at.now.t.now in
    omega (arith, cut_within t.window_us t.queries c.args.at.now.q c.args.at.now.b t.typed c.args.at.now.has_query c.args.at.now.has_branch, c.max_cut-cut.ensures, ap length c.operators.ensures)

pub run-requires : goal.run-requires
run-requires g c =
    let a = c.args in
    let t = a.at.now.t.now in
    let packets : List Row = packet_rows (query_at t.queries a.at.now.q) a.at.now.b a.at.now.level a.at.now.kept a.at.now.tuples.now in
    let branch : TypedBranch = branch_at t.queries a.at.now.q a.at.now.b in
    let all : List Row = through (map (op_at a.at.now.level) (take branch.max_cut branch.ops)) packets in
    let unsplit : c.in-Some.unsplit ≡ all = some_same c.in-Some.unsplit all (sym c.in-Some.is ∙ c.in_ok-counts.ensures.unsplit) in
    let rest : c.split_at.result.1.now ≡ drop branch.max_cut branch.ops = c.split_at.ensures.back ∙ ap (drop c.max_cut-cut.result) c.operators.ensures ∙ ap (λ n. drop n branch.ops) c.max_cut-cut.ensures in
    subst (λ (os : List TOp). AllFit a.at.now.level os c.in-Some.unsplit) (sym rest)
    (subst (AllFit a.at.now.level (drop branch.max_cut branch.ops)) (sym unsplit)
    (fit_rest a.at.now.level branch.max_cut branch.ops packets (branch_fit t.window_us t.queries a.at.now.q a.at.now.b a.at.now.level packets t.typed c.args.at.now.has_query c.args.at.now.has_branch c.in_ok-counts.ensures.columns)))

pub returns-clause-rows : goal.returns-clause-rows
returns-clause-rows g c =
    let a = c.args in
    let packets : List Row = packet_rows (query_at a.at.now.t.now.queries a.at.now.q) a.at.now.b a.at.now.level a.at.now.kept a.at.now.tuples.now in
    let branch : TypedBranch = branch_at a.at.now.t.now.queries a.at.now.q a.at.now.b in
    let all : List Row = through (map (op_at a.at.now.level) (take branch.max_cut branch.ops)) packets in
    gone_on a.at.now.level branch.max_cut branch.ops c.split_at.result.1.now packets c.in-Some.unsplit c.in_ok-rows.rows
    (c.split_at.ensures.back ∙ ap (drop c.max_cut-cut.result) c.operators.ensures ∙ ap (λ n. drop n branch.ops) c.max_cut-cut.ensures)
    (some_same c.in-Some.unsplit all (sym c.in-Some.is ∙ c.in_ok-counts.ensures.unsplit)) c.in_ok-rows.ensures

pub returns-clause-columns : goal.returns-clause-columns
returns-clause-columns g c =
    let a = c.args in
    let t = a.at.now.t.now in
    let packets : List Row = packet_rows (query_at t.queries a.at.now.q) a.at.now.b a.at.now.level a.at.now.kept a.at.now.tuples.now in
    let branch : TypedBranch = branch_at t.queries a.at.now.q a.at.now.b in
    let all : List Row = through (map (op_at a.at.now.level) (take branch.max_cut branch.ops)) packets in
    let gives : c.in_ok-rows.rows ≡ through (map (op_at a.at.now.level) branch.ops) packets =
    gone_on a.at.now.level branch.max_cut branch.ops c.split_at.result.1.now packets c.in-Some.unsplit c.in_ok-rows.rows
    (c.split_at.ensures.back ∙ ap (drop c.max_cut-cut.result) c.operators.ensures ∙ ap (λ n. drop n branch.ops) c.max_cut-cut.ensures)
    (some_same c.in-Some.unsplit all (sym c.in-Some.is ∙ c.in_ok-counts.ensures.unsplit)) c.in_ok-rows.ensures in
    subst (AreOf (end_columns branch)) (sym gives) (branch_of_end t.window_us t.queries a.at.now.q a.at.now.b a.at.now.level packets t.typed c.args.at.now.has_query c.args.at.now.has_branch c.in_ok-counts.ensures.columns)
