use Rattle.std.proofs.Common.{None, refl}
use Rattle.sn_plan_space.proofs.Steps.{gone, may_path, got_from, none_from}
use Rattle.sn_plan_space.proofs.position.choose_path.Goals as goal

pub returns-in_default : goal.returns-in_default
returns-in_default c = λ stages s entry a e h m.
    absurd (may_path s entry a c.args.position c.args.query.now c.args.following.now c.args.m c.requires.waits c.requires.pieces c.requires.queries h m
    (none_from c.as_slice.result.now c.args.query.now.paths c.args.m c.as_slice.ensures c.in_default.ensures.lookup.3))

pub returns : goal.returns
returns c = λ stages s entry a e h m.
    gone s entry a c.args.position c.args.query.now c.args.following.now c.args.m c.in-Some.path.now
    (record { waiting = None; pieces = c.as_slice-2.result; queries = c.args.following; spent = c.args.position.spent })
    c.requires.waits c.requires.pieces c.requires.queries h m
    (got_from c.as_slice.result.now c.args.query.now.paths c.args.m c.in-Some.path.now c.as_slice.ensures c.in-Some.ensures.lookup.3.0 c.in-Some.ensures.lookup.1)
    refl c.as_slice-2.ensures refl refl
