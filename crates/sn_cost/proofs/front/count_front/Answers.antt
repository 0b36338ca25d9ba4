use Rattle.std.proofs.Common.{◌≡◌, ℕ, ◌<◌, List, Option, length, subst, ap, sym, ◌∙◌, arith}
use Rattle.std.specs.Prelude.{OnOk}
use Rattle.sn_ops.specs.Packets.{OfALevel}
use Rattle.sn_ops.specs.declared.packets.Kept.{Kept}
use Rattle.sn_types.specs.declared.typed_query.TypedQuery.{TypedQuery}
use Rattle.sn_types.specs.Typed.{query_at}
use Rattle.sn_cost.specs.Adding.{Adds, AreSmall, kept_counts, of_branches, with_fee}
use Rattle.sn_cost.specs.Training.{admitted, fee_of}
use Rattle.sn_cost.proofs.Fees.{admitted_level, fee_kept}
use Rattle.sn_cost.proofs.front.count_front.Goals as goal

pub fee_of-fee-requires : goal.fee_of-fee-requires
fee_of-fee-requires c =
    let a = c.args in
    let most = fee_kept a.s.now a.kept in
    let room = c.requires.room 0 (omega arith) 0 (omega arith) in
    omega (arith, most, room, ap (fee_of a.s.now) c.admitted-installed.ensures)

pub add_branches-requires-clause-room : goal.add_branches-requires-clause-room
add_branches-requires-clause-room c = λ b of_branch option below.
    let a = c.args in
    let most = fee_kept a.s.now a.kept in
    let room = c.requires.room b of_branch option below in
    omega (arith, most, room, c.fee_of-fee.ensures, ap (fee_of a.s.now) c.admitted-installed.ensures)

pub add_branches-requires-clause-kept : goal.add_branches-requires-clause-kept
add_branches-requires-clause-kept c =
    let a = c.args in
    let query : TypedQuery = query_at a.t.now.queries a.q in
    subst (OfALevel query) (sym c.admitted-installed.ensures) (admitted_level query a.s.now.entries a.kept c.requires.kept)

pub returns-clause-small : goal.returns-clause-small
returns-clause-small c =
    let a = c.args in
    let query : TypedQuery = query_at a.t.now.queries a.q in
    subst (λ (x : Option Kept). OnOk c.add_branches.result ((b : ℕ) → b < length query.branches → AreSmall (kept_counts a.s.now query a.level x a.tuples.now b))) c.admitted-installed.ensures c.add_branches.ensures.small

pub returns-clause-adds : goal.returns-clause-adds
returns-clause-adds c =
    let a = c.args in
    let query : TypedQuery = query_at a.t.now.queries a.q in
    let installed : Option Kept = admitted a.s.now.entries a.kept in
    let fee : c.fee_of-fee.result ≡ fee_of a.s.now installed = c.fee_of-fee.ensures ∙ ap (fee_of a.s.now) c.admitted-installed.ensures in
    let added : ℕ → Option Kept → ℕ → List ℕ = λ n x b. with_fee n (kept_counts a.s.now query a.level x a.tuples.now b) in
    subst (λ (n : ℕ). OnOk c.add_branches.result (Adds a.table.now c.add_branches.new.table (of_branches a.q a.front (length query.branches) (added n installed)))) fee
    (subst (λ (x : Option Kept). OnOk c.add_branches.result (Adds a.table.now c.add_branches.new.table (of_branches a.q a.front (length query.branches) (added c.fee_of-fee.result x)))) c.admitted-installed.ensures c.add_branches.ensures.adds)
