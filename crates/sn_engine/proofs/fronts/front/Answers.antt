use Rattle.std.proofs.Common.{◌≤◌, List, length, ap, sym, subst, arith}
use Rattle.std.proofs.lemmas.List.{length-take}
use Rattle.sn_types.proofs.Facts.{few_ops}
use Rattle.sn_types.specs.declared.typed_op.TOp.{TOp}
use Rattle.sn_engine.proofs.fronts.front.Goals as goal

pub returns-then-count-ops-clause-few : goal.returns-then-count-ops-clause-few
returns-then-count-ops-clause-few c =
    let t = c.args.t.now in
    subst (λ (os : List TOp). length os ≤ 12) (sym c.operators-ops.ensures) (few_ops t.window_us t.queries c.args.q c.args.b t.typed c.requires.query c.requires.branch)

pub returns-clause-few : goal.returns-clause-few
returns-clause-few c =
    let t = c.args.t.now in
    omega (arith, few_ops t.window_us t.queries c.args.q c.args.b t.typed c.requires.query c.requires.branch, ap length c.operators-ops.ensures, ap length c.split_at.ensures.front, length-take c.args.count c.operators-ops.result.now)
