use Rattle.std.proofs.Common.{refl, arith}
use Rattle.sn_cost_counts.proofs.Arrivals.{passed_within, place_end, place_first, place_left, place_next}
use Rattle.sn_cost_counts.proofs.coming.Reached.add_counts.Goals as goal

pub loop-place-init : goal.loop-place-init
loop-place-init c =
    let a = c.args in
    λ level rows out h. place_first level a.ops.now rows a.counts.now a.self.now.seen a.self.now.passed out h

pub overflow_sub-left : goal.overflow_sub-left
overflow_sub-left c =
    let a = c.args in
    let come = c.requires.come in
    passed_within come.0 a.ops.now come.1 a.counts.now a.self.now.seen a.self.now.passed come.2 come.3 c.loop-place.place c.loop-place.left c.loop-place.counts
    (omega (arith, c.loop-place-test.true, c.requires.short)) (c.loop-place.invariant come.0 come.1 come.2 come.3)

pub loop-place-preserved : goal.loop-place-preserved
loop-place-preserved c =
    let a = c.args in
    λ level rows out h.
    place_next level a.ops.now rows a.counts.now a.self.now.seen a.self.now.passed out h c.loop-place.place c.loop-place.left _ c.loop-place.counts c.push.new.self
    c.loop-place-test.true c.requires.short (c.loop-place.invariant level rows out h) c.in_ok-push.ensures.ok refl

pub returns-clause-counts : goal.returns-clause-counts
returns-clause-counts c =
    let a = c.args in
    λ level rows out h.
    place_end level a.ops.now rows a.counts.now a.self.now.seen a.self.now.passed out h c.loop-place.place c.loop-place.left c.loop-place.counts (omega arith) (c.loop-place.invariant level rows out h)

pub returns-clause-left : goal.returns-clause-left
returns-clause-left c =
    let a = c.args in
    λ level rows out h.
    place_left level a.ops.now rows a.counts.now a.self.now.seen a.self.now.passed out h c.loop-place.place c.loop-place.left c.loop-place.counts (omega arith) (omega arith) (c.loop-place.invariant level rows out h)
