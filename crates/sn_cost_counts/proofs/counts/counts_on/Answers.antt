use Rattle.std.proofs.Common.{List, ℕ, ◌+◌, ◌++◌, Option, drop, map, refl, subst, ◌∙◌, arith}
use Rattle.std.specs.Option.{option_map}
use Rattle.sn_base.specs.Groups.{Row}
use Rattle.sn_base.specs.Operators.{through}
use Rattle.sn_types.specs.Values.{op_at}
use Rattle.sn_cost_counts.specs.Flows.{counts_from}
use Rattle.sn_cost_counts.specs.Passing.{CanFollow, flows_of, held_by, unsplit_of}
use Rattle.sn_cost_counts.proofs.Going.{all_along, all_few, all_sent, at_first, one_ahead, one_along, operators_ahead}
use Rattle.sn_cost_counts.proofs.Unsplit.{fits_after, fits_one, follows_all, follows_next}
use Rattle.sn_cost_counts.proofs.counts.counts_on.Goals as goal

pub loop-op-init : goal.loop-op-init
loop-op-init g c =
    let a = c.args in
    record {
      along = λ passed few first. at_first a.steps.now.registers.now.chain a.steps.now.level a.steps.now.registers.now.sizes.now a.steps.now.ops.now passed (flows_of a.passing) a.before first;
      shape = c.requires.shape;
      held = c.requires.fits;
      follows = refl;
    }

pub add_counts-requires-clause-sent : goal.add_counts-requires-clause-sent
add_counts-requires-clause-sent g c =
    let i = c.loop-op.op-index in
    let go = c.requires.go in
    let along = c.loop-op.invariant.along go.0 go.1 go.2 in
    all_sent c.args.steps.now.level 13 (go.0 + i) (drop i c.args.steps.now.ops.now) (flows_of c.loop-op.passing) (omega (arith, c.loop-op-test.true, go.1)) along.go

pub add_counts-requires-clause-few : goal.add_counts-requires-clause-few
add_counts-requires-clause-few g c =
    let i = c.loop-op.op-index in
    let go = c.requires.go in
    let along = c.loop-op.invariant.along go.0 go.1 go.2 in
    all_few c.args.steps.now.level (go.0 + i) (drop i c.args.steps.now.ops.now) (flows_of c.loop-op.passing) along.go

pub after-requires-clause-go : goal.after-requires-clause-go
after-requires-clause-go g c =
    let a = c.args in
    let i = c.loop-op.op-index in
    let go = c.requires.go in
    let along = c.loop-op.invariant.along go.0 go.1 go.2 in (
      go.0 + i,
      drop (i + 1) a.steps.now.ops.now,
      omega (arith, c.loop-op-test.true, go.1),
      one_ahead a.steps.now.level (go.0 + i) i a.steps.now.ops.now c.op-item.result (flows_of c.loop-op.passing) c.loop-op-test.true c.op-item.is along.go,
    )

pub after-requires-clause-shape : goal.after-requires-clause-shape
after-requires-clause-shape g c =
    let os = c.args.steps.now.ops.now in
    let i = c.loop-op.op-index in
    (drop (i + 1) os, subst (CanFollow c.loop-op.passing) (operators_ahead os i c.op-item.result c.loop-op-test.true c.op-item.is) c.loop-op.invariant.shape)

pub after-requires-clause-fits : goal.after-requires-clause-fits
after-requires-clause-fits g c = fits_one c.args.steps.now.level c.args.steps.now.ops.now c.loop-op.op-index c.op-item.result (held_by c.loop-op.passing) c.loop-op-test.true c.op-item.is c.loop-op.invariant.held

pub loop-op-preserved : goal.loop-op-preserved
loop-op-preserved g c =
    let a = c.args in
    let i = c.loop-op.op-index in
    let op = c.op-item.result in
    let all : Option (List Row) = option_map (through (map (op_at a.steps.now.level) a.steps.now.ops.now)) (unsplit_of a.passing) in
    let counts : List ℕ = a.before ++ counts_from a.steps.now.registers.now.chain a.steps.now.level a.steps.now.registers.now.sizes.now a.steps.now.ops.now (flows_of a.passing) in
    record {
      along = λ passed few first.
          one_along a.steps.now.registers.now.chain a.steps.now.level a.steps.now.registers.now.sizes.now a.steps.now.ops.now counts passed i op (flows_of c.loop-op.passing) (flows_of c.in_ok-passing.passing) c.loop-op.counts c.add_counts.new.counts
          c.loop-op-test.true c.op-item.is (c.loop-op.invariant.along passed few first) c.in_ok-add_counts.ensures c.in_ok-passing.ensures.flows;
      shape = c.in_ok-passing.ensures.shape (drop (i + 1) a.steps.now.ops.now) (subst (CanFollow c.loop-op.passing) (operators_ahead a.steps.now.ops.now i op c.loop-op-test.true c.op-item.is) c.loop-op.invariant.shape);
      held = fits_after a.steps.now.level a.steps.now.ops.now i op (held_by c.loop-op.passing) (held_by c.in_ok-passing.passing) c.loop-op-test.true c.op-item.is c.loop-op.invariant.held c.in_ok-passing.ensures.held;
      follows = follows_next a.steps.now.level a.steps.now.ops.now all i op (unsplit_of c.loop-op.passing) (unsplit_of c.in_ok-passing.passing) c.loop-op-test.true c.op-item.is c.loop-op.invariant.follows c.in_ok-passing.ensures.unsplit;
    }

pub add_counts-requires-2-clause-sent : goal.add_counts-requires-2-clause-sent
add_counts-requires-2-clause-sent g c =
    let i = c.loop-op.op-index in
    let go = c.requires.go in
    let along = c.loop-op.invariant.along go.0 go.1 go.2 in
    all_sent c.args.steps.now.level 13 (go.0 + i) (drop i c.args.steps.now.ops.now) (flows_of c.loop-op.passing) (omega (arith, go.1)) along.go

pub add_counts-requires-2-clause-few : goal.add_counts-requires-2-clause-few
add_counts-requires-2-clause-few g c =
    let i = c.loop-op.op-index in
    let go = c.requires.go in
    let along = c.loop-op.invariant.along go.0 go.1 go.2 in
    all_few c.args.steps.now.level (go.0 + i) (drop i c.args.steps.now.ops.now) (flows_of c.loop-op.passing) along.go

pub returns-clause-unsplit : goal.returns-clause-unsplit
returns-clause-unsplit g c =
    let a = c.args in
    let all : Option (List Row) = option_map (through (map (op_at a.steps.now.level) a.steps.now.ops.now)) (unsplit_of a.passing) in
    c.into_unsplit.ensures ∙ follows_all a.steps.now.level a.steps.now.ops.now all c.loop-op.op-index (unsplit_of c.loop-op.passing) (omega arith) c.loop-op.invariant.follows

pub returns-clause-counts : goal.returns-clause-counts
returns-clause-counts g c =
    let a = c.args in
    let go = c.requires.go in
    let counts : List ℕ = a.before ++ counts_from a.steps.now.registers.now.chain a.steps.now.level a.steps.now.registers.now.sizes.now a.steps.now.ops.now (flows_of a.passing) in
    let along = c.loop-op.invariant.along go.0 go.1 go.2 in
    all_along a.steps.now.registers.now.chain a.steps.now.level a.steps.now.registers.now.sizes.now a.steps.now.ops.now counts go.0 c.loop-op.op-index (flows_of c.loop-op.passing) c.loop-op.counts c.add_counts-2.new.counts (omega arith) along c.in_ok-add_counts-2.ensures
