use Rattle.std.proofs.Common.{◌≡◌, ℕ, ◌+◌, List, length, refl, sym, subst, arith}
use Rattle.sn_ops.proofs.PacketSteps.{some_branch}
use Rattle.sn_types.specs.declared.typed_query.TypedQuery.{TypedQuery}
use Rattle.sn_cost_counts.specs.Standing.{IsPacked}
use Rattle.sn_types.specs.Typed.{query_at}
use Rattle.sn_types.proofs.Facts.{few_branches}
use Rattle.sn_cost.specs.Adding.{Adds, AreSmall, kept_counts, of_branches, with_fee}
use Rattle.sn_cost.proofs.Growing.{always, no_branches, one_branch, room_left}
use Rattle.sn_cost.proofs.Packing.{read_at}
use Rattle.sn_cost.proofs.rows.add_query_rows.Goals as goal

pub add_branch-requires-clause-branch : goal.add_branch-requires-clause-branch
add_branch-requires-clause-branch c =
    let some = some_branch c.args.t.now.window_us c.args.t.now.queries c.args.q c.args.t.now.typed c.requires.query in
    omega (arith, some)

pub add_branch-requires-clause-room : goal.add_branch-requires-clause-room
add_branch-requires-clause-room c = c.requires.room 0 (omega arith)

pub returns-then-branches-ne2-clause-small : goal.returns-then-branches-ne2-clause-small
returns-then-branches-ne2-clause-small c = λ b lt.
    let a = c.args in
    let t = a.t.now in
    let query : TypedQuery = query_at t.queries a.q in
    let few = few_branches t.window_us t.queries a.q t.typed c.requires.query in
    let zero : 0 ≡ b = omega (arith, few, lt, c.branches.ensures, c.if-branches-ne2.true) in
    subst (λ n. AreSmall (kept_counts a.s.now query a.level a.kept a.tuples.now n)) zero c.in_ok-left.ensures.small

pub returns-then-branches-ne2-clause-adds : goal.returns-then-branches-ne2-clause-adds
returns-then-branches-ne2-clause-adds c =
    let a = c.args in
    let t = a.t.now in
    let query : TypedQuery = query_at t.queries a.q in
    let counts : ℕ → List ℕ = λ b. with_fee a.fee (kept_counts a.s.now query a.level a.kept a.tuples.now b) in
    let few = few_branches t.window_us t.queries a.q t.typed c.requires.query in
    let some = some_branch t.window_us t.queries a.q t.typed c.requires.query in
    let one : 0 + 1 ≡ length query.branches = omega (arith, few, some, c.branches.ensures, c.if-branches-ne2.true) in
    subst (λ n. Adds a.table.now c.add_branch.new.table (of_branches a.q a.front n counts)) one
    (one_branch a.table.now a.table.now c.add_branch.new.table a.q a.front 0 counts (counts 0) (no_branches a.table.now a.q a.front counts) refl c.in_ok-left.ensures.adds)

pub add_branch-requires-2-clause-places : goal.add_branch-requires-2-clause-places
add_branch-requires-2-clause-places c = c.in_ok-left.ensures.adds.places (c.args.q + 1) c.requires.places

pub add_branch-requires-2-clause-room : goal.add_branch-requires-2-clause-room
add_branch-requires-2-clause-room c =
    let a = c.args in
    let query : TypedQuery = query_at a.t.now.queries a.q in
    let counts : ℕ → List ℕ = λ b. with_fee a.fee (kept_counts a.s.now query a.level a.kept a.tuples.now b) in
    let first : Adds a.table.now c.add_branch.new.table (of_branches a.q a.front (0 + 1) counts) =
    one_branch a.table.now a.table.now c.add_branch.new.table a.q a.front 0 counts (counts 0) (no_branches a.table.now a.q a.front counts) refl c.in_ok-left.ensures.adds in
    room_left a.table.now c.add_branch.new.table a.q a.front 1 a.fee counts c.requires.places c.requires.front (omega arith) first (c.requires.room 1 (omega arith))

pub returns-clause-adds : goal.returns-clause-adds
returns-clause-adds c =
    let a = c.args in
    let query : TypedQuery = query_at a.t.now.queries a.q in
    let counts : ℕ → List ℕ = λ b. with_fee a.fee (kept_counts a.s.now query a.level a.kept a.tuples.now b) in
    let first : Adds a.table.now c.add_branch.new.table (of_branches a.q a.front (0 + 1) counts) =
    one_branch a.table.now a.table.now c.add_branch.new.table a.q a.front 0 counts (counts 0) (no_branches a.table.now a.q a.front counts) refl c.in_ok-left.ensures.adds in
    let both : Adds a.table.now c.add_branch-2.new.table (of_branches a.q a.front (1 + 1) counts) =
    one_branch a.table.now c.add_branch.new.table c.add_branch-2.new.table a.q a.front 1 counts (counts 1) first refl c.in_ok-right.ensures.adds in
    let two : 1 + 1 ≡ length query.branches = omega (arith, c.branches.ensures, c.if-branches-ne2.false) in
    always c.join_lists.result (Adds a.table.now c.add_branch-2.new.table (of_branches a.q a.front (length query.branches) counts))
    (subst (λ n. Adds a.table.now c.add_branch-2.new.table (of_branches a.q a.front n counts)) two both)

pub bounds-packed-0 : goal.bounds-packed-0
bounds-packed-0 c =
    let t = c.args.t.now in
    let some = some_branch t.window_us t.queries c.args.q t.typed c.requires.query in
    let long = c.requires.packed.long in
    omega (arith, some, long)

pub add_branch-requires-clause-packed : goal.add_branch-requires-clause-packed
add_branch-requires-clause-packed c =
    let t = c.args.t.now in
    let some = some_branch t.window_us t.queries c.args.q t.typed c.requires.query in
    let long = c.requires.packed.long in
    subst (IsPacked (query_at c.args.t.now.queries c.args.q) 0 c.args.tuples.now) (sym c.as_ref.ensures.value)
    (c.requires.packed.each 0 c.index-packed-0.result (read_at c.args.packed.now 0 c.index-packed-0.result (omega (arith, some, long)) c.index-packed-0.is))

pub add_branch-requires-2-clause-packed : goal.add_branch-requires-2-clause-packed
add_branch-requires-2-clause-packed c =
    let long = c.requires.packed.long in
    subst (IsPacked (query_at c.args.t.now.queries c.args.q) 1 c.args.tuples.now) (sym c.as_ref-2.ensures.value)
    (c.requires.packed.each 1 c.index-packed-1.result (read_at c.args.packed.now 1 c.index-packed-1.result (omega (arith, c.if-branches-ne2.false, c.branches.ensures, long)) c.index-packed-1.is))
