use Rattle.std.proofs.Common.{◌≡◌, ℕ, ◌+◌, drop, ap, sym, ◌∙◌}
use Rattle.sn_refine.specs.Steps.{Set}
use Rattle.sn_engine.specs.declared.left.Left.{Left}
use Rattle.sn_engine.specs.Intakes.{items_at, lane_at}
use Rattle.sn_engine.specs.AnyItems.{items_left}
use Rattle.sn_engine.specs.Keeping.{all_left, left}
use Rattle.sn_engine.proofs.Lefts.{get_at, here_left, if_ok, later_left, members_of, next_is, none_left}
use Rattle.sn_engine.proofs.answers.left_at.Goals as goal

pub returns-then-is_side : goal.returns-then-is_side
returns-then-is_side c =
    let queries = c.args.t.now.queries in
    let sets = c.args.sets.now in
    let lanes = c.args.lanes.now in
    let i = c.loop-x.x-index in
    let x = c.x-item.result in
    let lane = lane_at c.args.query c.args.place c.args.branch in
    let at = get_at lanes i x c.loop-x-test.true c.x-item.is in
    let own : c.members_at.result.now ≡ members_of sets i = c.members_at.ensures ∙ ap (members_of sets) c.loop-x.invariant.0 in
    let wanted : (left queries c.members_at.result.now x).items ≡ items_at (all_left queries sets lanes) lane =
    ap (λ (m : Set). (left queries m x).items) own ∙ sym (here_left queries sets lanes lane i x at (sym c.is_side.ensures ∙ c.if-is_side.true)) ∙ c.loop-x.invariant.1 in
    if_ok (λ (found : Left). items_left found ≡ (left queries c.members_at.result.now x).items) (λ found. items_left found ≡ items_at (all_left queries sets lanes) lane) c.left_of.result (λ found e. e ∙ wanted) c.left_of.ensures

pub loop-x-preserved : goal.loop-x-preserved
loop-x-preserved c =
    let queries = c.args.t.now.queries in
    let sets = c.args.sets.now in
    let lanes = c.args.lanes.now in
    let i = c.loop-x.x-index in
    let x = c.x-item.result in
    let lane = lane_at c.args.query c.args.place c.args.branch in
    let at = get_at lanes i x c.loop-x-test.true c.x-item.is in (
      ap (λ n. n + 1) c.loop-x.invariant.0,
      ap (λ (n : ℕ). items_at (drop n (all_left queries sets lanes)) lane) (next_is i) ∙ sym (later_left queries sets lanes lane i x at (sym c.is_side.ensures ∙ c.if-is_side.false)) ∙ c.loop-x.invariant.1,
    )

pub returns : goal.returns
returns c =
    let queries = c.args.t.now.queries in
    let sets = c.args.sets.now in
    let lanes = c.args.lanes.now in
    let lane = lane_at c.args.query c.args.place c.args.branch in
    c.new.ensures ∙ sym (none_left queries sets lanes lane c.loop-x.x-index c.loop-x-test.false) ∙ c.loop-x.invariant.1
