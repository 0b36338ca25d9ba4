use Rattle.std.proofs.Common.{◌++◌, ◌∷◌, [], List, cond, append-nil, ap, sym, subst, ◌∙◌, arith}
use Rattle.sn_base.specs.Groups.{Row}
use Rattle.sn_cost_counts.specs.Coming.{HaveCome}
use Rattle.sn_cost_counts.proofs.Arrivals.{on_ok}
use Rattle.sn_cost_counts.proofs.coming.Arrivals.add.Goals as goal

pub count-requires-clause-few : goal.count-requires-clause-few
count-requires-clause-few g c =
    let few = c.requires.few in
    (few.0, c.args.self.now.rows, omega (arith, few.1), few.2)

pub returns-then-not-count : goal.returns-then-not-count
returns-then-not-count g c =
    let a = c.args in
    λ rows h.
    let row : Row = g.R.Columns.columns c.count.new.row in
    subst (λ (out : List Row). HaveCome a.level a.ops.now (rows ++ a.packet.now ∷ []) c.count.new.self.seen c.count.new.self.passed out)
    (ap (λ b. a.self.now.rows ++ cond b (row ∷ []) []) c.if-not-count.true ∙ append-nil a.self.now.rows)
    (c.count.ensures rows a.self.now.rows h)

pub returns : goal.returns
returns g c =
    let a = c.args in
    λ rows h.
    let row : Row = g.R.Columns.columns c.count.new.row in
    on_ok _ _ c.push.result
    (λ grown.
    subst (λ (out : List Row). HaveCome a.level a.ops.now (rows ++ a.packet.now ∷ []) c.count.new.self.seen c.count.new.self.passed out)
    (ap (λ b. a.self.now.rows ++ cond b (row ∷ []) []) c.if-not-count.false ∙ sym grown)
    (c.count.ensures rows a.self.now.rows h))
    c.push.ensures.ok
