use Rattle.std.proofs.Common.{◌+◌, sym, subst, arith}
use Rattle.sn_plan_space.specs.Positions.{IsNext}
use Rattle.sn_plan_space.proofs.Steps.{placed, may_stage}
use Rattle.sn_plan_space.proofs.position.place.Goals as goal

pub returns-then-stage-stages : goal.returns-then-stage-stages
returns-then-stage-stages c = λ s entry a e h m. absurd (let k = may_stage s entry a c.args.position c.args.waiting c.args.stage c.requires.waits h m in let t = c.if-stage-stages.true in omega arith)

pub returns : goal.returns
returns c = λ s entry a e h m.
    placed s entry a c.args.position c.args.waiting c.args.stage c.next_waiting-is_past.result.0 c.next_waiting-is_past.result.1 c.requires.waits h
    (λ tables k. subst (λ n. IsNext n (c.args.stage + 1) tables c.next_waiting-is_past.result.0 c.next_waiting-is_past.result.1) (sym e) (c.next_waiting-is_past.ensures tables k))
