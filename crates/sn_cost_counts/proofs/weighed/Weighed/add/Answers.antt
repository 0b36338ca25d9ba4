use Rattle.std.proofs.Common.{◌++◌, List, [], replicate, cond, ap, subst}
use Rattle.sn_base.specs.Groups.{Row}
use Rattle.sn_cost_counts.specs.Coming.{HaveCome}
use Rattle.sn_cost_tally.specs.Weighed.{repeated}
use Rattle.sn_cost_counts.proofs.Arrivals.{on_ok}
use Rattle.sn_cost_counts.proofs.Standing.{weighed_push, weighed_stop}
use Rattle.sn_cost_counts.proofs.weighed.Weighed.add.Goals as goal

pub count-requires-clause-few : goal.count-requires-clause-few
count-requires-clause-few g c =
    let few = c.requires.few in
    (few.0, repeated c.args.self.now.rows c.args.self.now.weights.items, few.1, few.2.come)

pub returns-then-not-count : goal.returns-then-not-count
returns-then-not-count g c =
    let a = c.args in
    let old = a.self.now in
    let new = c.count.new.self in
    λ rows h.
    let out : List Row = repeated old.rows old.weights.items in
    let more : List Row = rows ++ replicate a.times a.packet.now in
    let row : Row = g.R.Columns.columns c.count.new.row in
    weighed_stop a.level a.ops.now rows more old.reached.seen new.seen old.reached.passed new.passed old.rows old.weights.items h
    (subst (HaveCome a.level a.ops.now more new.seen new.passed) (ap (λ b. out ++ cond b (replicate a.times row) []) c.if-not-count.true) (c.count.ensures rows out h.come))

pub returns : goal.returns
returns g c =
    let a = c.args in
    let old = a.self.now in
    let new = c.count.new.self in
    λ rows h.
    let out : List Row = repeated old.rows old.weights.items in
    let more : List Row = rows ++ replicate a.times a.packet.now in
    let row : Row = g.R.Columns.columns c.count.new.row in
    on_ok _ _ c.push-2.result
    (λ grown.
    weighed_push a.level a.ops.now rows more old.reached.seen new.seen old.reached.passed new.passed old.rows old.weights.items h row a.times c.push-2.new.self c.push.new.self.items c.requires.some grown c.in_ok-push.ensures.items
    (subst (HaveCome a.level a.ops.now more new.seen new.passed) (ap (λ b. out ++ cond b (replicate a.times row) []) c.if-not-count.false) (c.count.ensures rows out h.come)))
    c.push-2.ensures.ok
