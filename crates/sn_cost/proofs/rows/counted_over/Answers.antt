use Rattle.std.proofs.Common.{◌≡◌, ℕ, List, ap, ◌∙◌}
use Rattle.sn_base.specs.Groups.{Row}
use Rattle.sn_cost_counts.specs.Counts.{counts_of}
use Rattle.sn_cost_counts.proofs.Going.{if_ok}
use Rattle.sn_ops.specs.Packets.{packet_rows}
use Rattle.sn_types.specs.declared.typed_query.TypedBranch.{TypedBranch}
use Rattle.sn_types.specs.Typed.{branch_at, query_at}
use Rattle.sn_cost.proofs.rows.counted_over.Goals as goal

pub returns-clause-counts : goal.returns-clause-counts
returns-clause-counts g c =
    let a = c.args in
    let branch : TypedBranch = branch_at a.t.now.queries a.q a.b in
    let rows : List Row = packet_rows (query_at a.t.now.queries a.q) a.b a.level a.kept a.tuples.now in
    let r = c.registers.result in
    if_ok c.counts_and_rows.result (λ found. found.counts ≡ counts_of branch a.level r.chain r.sizes.now rows) _
    (λ found is. is ∙ ap (λ n. counts_of branch a.level n r.sizes.now rows) c.registers.ensures.chain ∙ ap (λ (xs : List ℕ). counts_of branch a.level a.s.now.chain xs rows) c.registers.ensures.sizes)
    c.counts_and_rows.ensures.counts
