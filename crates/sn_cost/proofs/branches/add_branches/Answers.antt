use Rattle.std.proofs.Common.{◌≡◌, ℕ, ◌+◌, ◌<◌, List, length, ap, sym, subst, ◌∙◌, arith}
use Rattle.std.proofs.lemmas.List.{length-map}
use Rattle.sn_cost_counts.specs.Counts.{setting_count}
use Rattle.sn_cost_counts.specs.Settings.{settings}
use Rattle.sn_ops.specs.Packets.{packet_rows}
use Rattle.sn_types.specs.declared.typed_query.TypedBranch.{TypedBranch}
use Rattle.sn_types.specs.declared.typed_query.TypedQuery.{TypedQuery}
use Rattle.sn_cost_counts.specs.Standing.{IsPacked}
use Rattle.sn_types.specs.Typed.{branch_at, query_at}
use Rattle.sn_types.proofs.Facts.{few_branches}
use Rattle.sn_cost.specs.Adding.{AreSmall, kept_counts, with_fee}
use Rattle.sn_cost.proofs.Growing.{one_branch, room_left, small_more}
use Rattle.sn_cost.proofs.Packing.{read_at}
use Rattle.sn_cost.proofs.branches.add_branches.Goals as goal

pub add_counts-requires-clause-query : goal.add_counts-requires-clause-query
add_counts-requires-clause-query c = c.loop-b.invariant.adds.places (c.args.q + 1) c.requires.places

pub add_counts-requires-clause-branch : goal.add_counts-requires-clause-branch
add_counts-requires-clause-branch c =
    let t = c.args.t.now in
    let most = few_branches t.window_us t.queries c.args.q t.typed c.requires.query in
    omega (arith, most, c.loop-b-test.true, c.branches-b-end.ensures)

pub add_counts-requires-clause-options : goal.add_counts-requires-clause-options
add_counts-requires-clause-options c =
    let a = c.args in
    let query : TypedQuery = query_at a.t.now.queries a.q in
    let branch : TypedBranch = branch_at a.t.now.queries a.q c.loop-b.b in
    ap length (c.as_slice.ensures ∙ c.in_ok-counts.ensures.counts)
    ∙ length-map (settings a.s.now.slots branch.max_cut branch.ops) (setting_count branch a.level a.s.now.chain (packet_rows query c.loop-b.b a.level a.kept a.tuples.now))
    ∙ sym c.options.ensures.count

pub add_counts-requires-clause-room : goal.add_counts-requires-clause-room
add_counts-requires-clause-room c =
    let a = c.args in
    let t = a.t.now in
    let most = few_branches t.window_us t.queries a.q t.typed c.requires.query in
    let within : c.loop-b.b < 2 = omega (arith, most, c.loop-b-test.true, c.branches-b-end.ensures) in
    room_left a.table.now c.loop-b.table a.q a.prefix c.loop-b.b a.fee (λ b. with_fee a.fee (kept_counts a.s.now (query_at t.queries a.q) a.level a.kept a.tuples.now b)) c.requires.places c.requires.prefix within c.loop-b.invariant.adds (c.requires.room c.loop-b.b within)

pub loop-b-preserved : goal.loop-b-preserved
loop-b-preserved c =
    let a = c.args in
    let query : TypedQuery = query_at a.t.now.queries a.q in
    let kept : ℕ → List ℕ = kept_counts a.s.now query a.level a.kept a.tuples.now in
    let counts : c.in_ok-counts.counts ≡ kept c.loop-b.b = c.in_ok-counts.ensures.counts in
    record {
      small = small_more (λ b. AreSmall (kept b)) c.loop-b.b c.loop-b.invariant.small (subst AreSmall counts c.in_ok-counts.ensures.small);
      adds = one_branch a.table.now c.loop-b.table c.add_counts.new.table a.q a.prefix c.loop-b.b (λ b. with_fee a.fee (kept b)) (with_fee a.fee c.as_slice.result.now) c.loop-b.invariant.adds
          (ap (with_fee a.fee) (c.as_slice.ensures ∙ counts)) c.add_counts.ensures;
    }

pub kept_counts-requires-clause-packed : goal.kept_counts-requires-clause-packed
kept_counts-requires-clause-packed c =
    let packed = c.requires.packed in
    let long = packed.long in
    subst (IsPacked (query_at c.args.t.now.queries c.args.q) c.loop-b.b c.args.tuples.now) (sym c.as_ref-own.ensures.value)
    (packed.each c.loop-b.b c.index-packed-b.result (read_at c.args.packed.now c.loop-b.b c.index-packed-b.result (omega (arith, c.loop-b-test.true, c.branches-b-end.ensures, long)) c.index-packed-b.is))
