use Rattle.std.proofs.Common.{◌+◌, refl, arith}
use Rattle.sn_cost_counts.proofs.Arrivals.{all_or_some, passed_few}
use Rattle.sn_cost_counts.proofs.coming.Reached.count.Goals as goal

pub overflow_add-self : goal.overflow_add-self
overflow_add-self g c =
    let a = c.args in
    let few = c.requires.few in
    let total = few.3.total in
    omega (arith, total, few.2)

pub overflow_add-self-2 : goal.overflow_add-self-2
overflow_add-self-2 g c =
    let a = c.args in
    let few = c.requires.few in
    let less = passed_few a.level a.ops.now few.0 few.1 a.self.now.seen c.start-passed.result a.self.now.passed (omega (arith, c.start-passed.ensures.most, c.requires.short)) few.3 in
    omega (arith, less, few.2)

pub returns : goal.returns
returns g c =
    let a = c.args in
    λ rows out h.
    all_or_some a.level a.ops.now rows a.packet.now a.times c.start-passed.result a.self.now.seen (a.self.now.seen + a.times) a.self.now.passed _ out h c.start-passed.ensures.reach
    (omega (arith, c.start-passed.ensures.most, c.requires.short)) refl refl c.start-passed.ensures.most (g.R.Columns.columns c.start-passed.new.row) c.start-passed.ensures.come
