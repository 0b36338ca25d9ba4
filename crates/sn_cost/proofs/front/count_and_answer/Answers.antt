use Rattle.std.proofs.Common.{◌≡◌, ℕ, ◌<◌, Option, length, sym, subst, ◌∙◌}
use Rattle.sn_ops.specs.declared.packets.Kept.{Kept}
use Rattle.sn_types.specs.declared.typed_query.TypedQuery.{TypedQuery}
use Rattle.sn_types.specs.Typed.{query_at}
use Rattle.sn_cost.specs.Adding.{Adds, AreSmall, kept_counts, of_branches, with_fee}
use Rattle.sn_cost.specs.Training.{admitted, fee_of}
use Rattle.sn_cost.proofs.Fees.{admitted_closed}
use Rattle.sn_cost.proofs.Growing.{always}
use Rattle.sn_cost.proofs.front.count_and_answer.Goals as goal

pub returns-clause-small : goal.returns-clause-small
returns-clause-small c =
    let a = c.args in
    let query : TypedQuery = query_at a.t.now.queries a.q in
    let same : admitted a.s.now.entries a.kept ≡ a.kept = admitted_closed a.s.now.entries a.kept (sym c.stays_open.ensures ∙ c.if-stays_open.false) in
    always _ _
    (subst (λ (x : Option Kept). (b : ℕ) → b < length query.branches → AreSmall (kept_counts a.s.now query a.level x a.tuples.now b)) (sym same) c.in_ok-rows.ensures.small)

pub returns-clause-adds : goal.returns-clause-adds
returns-clause-adds c =
    let a = c.args in
    let query : TypedQuery = query_at a.t.now.queries a.q in
    let same : admitted a.s.now.entries a.kept ≡ a.kept = admitted_closed a.s.now.entries a.kept (sym c.stays_open.ensures ∙ c.if-stays_open.false) in
    let table = c.add_query_rows.new.table in
    always _ _
    (subst (λ (x : Option Kept). Adds a.table.now table (of_branches a.q a.front (length query.branches) (λ b. with_fee (fee_of a.s.now x) (kept_counts a.s.now query a.level x a.tuples.now b)))) (sym same)
    (subst (λ (n : ℕ). Adds a.table.now table (of_branches a.q a.front (length query.branches) (λ b. with_fee n (kept_counts a.s.now query a.level a.kept a.tuples.now b)))) c.fee_of-fee.ensures c.in_ok-rows.ensures.adds))
