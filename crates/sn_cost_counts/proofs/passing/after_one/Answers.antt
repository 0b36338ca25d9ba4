use Rattle.sn_cost_counts.proofs.Shapes.{together_next}
use Rattle.sn_cost_counts.proofs.Together.{one_held}
use Rattle.sn_cost_counts.proofs.passing.after_one.Goals as goal

pub returns-in_ok-of_one-in-Some-clause-flows : goal.returns-in_ok-of_one-in-Some-clause-flows
returns-in_ok-of_one-in-Some-clause-flows g c =
    let a = c.args in
    one_held a.depth a.slots.now a.op.now a.rows c.in_ok-of_one-in-Some.field-0 a.more c.in-Some.after c.requires.stateful c.requires.some_depth c.requires.one c.in_ok-of_one-in-Some.ensures c.in-Some.ensures

pub returns-in_ok-of_one-in-Some-clause-shape : goal.returns-in_ok-of_one-in-Some-clause-shape
returns-in_ok-of_one-in-Some-clause-shape g c = λ ahead h. together_next c.args.op.now ahead h
