use Rattle.std.proofs.Common.{List, ℕ, ◌<◌, ◌++◌, get_or, length, map, ap, sym, ◌∙◌, arith}
use Rattle.std.specs.List.{flat_map}
use Rattle.std.proofs.lemmas.List.{length-map, take_all}
use Rattle.sn_types.specs.declared.typed_op.TOp.TheVariants as ops
use Rattle.sn_types.specs.Values.{op_at}
use Rattle.sn_cost_tally.specs.declared.room.Homes.{Homes}
use Rattle.sn_cost_counts.specs.AnyFlow.{Flow}
use Rattle.sn_cost_counts.specs.Flows.{stepped}
use Rattle.sn_cost_counts.specs.Shared.{over_and_marks, staying}
use Rattle.sn_cost_counts.proofs.Going.{flows_grown}
use Rattle.sn_cost_counts.proofs.Remaking.{read_mapped}
use Rattle.sn_cost_counts.proofs.again.by_marks.Goals as goal

pub loop-homes-preserved : goal.loop-homes-preserved
loop-homes-preserved g c =
    let a = c.args in
    let homes : List Homes = a.shared.now.homes.items in
    let one : Homes → Flow = λ h. staying a.shared.now.distinct a.shared.now.rows (over_and_marks h) in
    let i : ℕ = c.loop-homes.homes-index in
    let item : Homes = c.homes-item.result in
    let same = c.as_slice-homes-items.ensures.value in
    let lt : i < length homes = omega (arith, c.loop-homes-test.true, ap length same) in
    flows_grown (λ f. map (λ size. stepped a.depth size (op_at 0 (ops.Reduce a.r.now)) f) a.slots.now) c.loop-homes.out.items c.add_marked_sizes.new.out.items (map one homes) i (one item)
    (omega (arith, lt, length-map homes one)) (read_mapped one homes i item lt (c.homes-item.is ∙ ap (λ hs. get_or hs i item) same)) c.loop-homes.invariant (c.in_ok-add_marked_sizes.ensures
    ∙ ap (λ b. c.loop-homes.out.items ++ map (λ size. stepped a.depth size (op_at 0 (ops.Reduce a.r.now)) (staying b a.shared.now.rows (over_and_marks item))) a.slots.now) (sym c.requires.distinct))

pub returns : goal.returns
returns g c =
    let a = c.args in
    let homes : List Homes = a.shared.now.homes.items in
    let one : Homes → Flow = λ h. staying a.shared.now.distinct a.shared.now.rows (over_and_marks h) in
    c.loop-homes.invariant
    ∙ ap (flat_map (λ f. map (λ size. stepped a.depth size (op_at 0 (ops.Reduce a.r.now)) f) a.slots.now))
    (take_all c.loop-homes.homes-index (map one homes) (omega (arith, c.loop-homes-test.false, length-map homes one, ap length c.as_slice-homes-items.ensures.value)))
