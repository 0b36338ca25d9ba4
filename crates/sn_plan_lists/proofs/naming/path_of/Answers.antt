use Rattle.std.proofs.Common.{◌∙◌, inl, inr}
use Rattle.sn_plan_choices.specs.Options.{path_of}
use Rattle.sn_plan_lists.proofs.NamedPieces.{path_pushed, path_left}
use Rattle.sn_plan_lists.proofs.naming.path_of.Goals as goal
use Rattle.sn_plan_lists.proofs.naming.path_of.Goals.{then-bits-eq1+in_ok-push, then-bits-eq1-via-then-bits-eq1, then-bits-eq1-via-else-bits-eq1+then-i-levels, else-bits-eq1+else-i-levels}

pub loop-i-preserved : goal.loop-i-preserved
loop-i-preserved c =
    let all = path_of c.args.number c.args.levels.now in
    elim c.if-bits-eq1.branch [
      | then-bits-eq1+in_ok-push w ↦
          path_pushed c.loop-i.bits c.loop-i.i c.args.levels.now c.loop-i.path c.if-bits-eq1.path all
          (elim w.then-bits-eq1.branch [ then-bits-eq1-via-then-bits-eq1 v ↦ inl v.if-bits-eq1.true | then-bits-eq1-via-else-bits-eq1+then-i-levels v ↦ inr v.if-i-levels.true ])
          c.loop-i-test.true (w.path-is ∙ w.in_ok-push.ensures.ok) c.loop-i.invariant.0 c.loop-i.invariant.1
      | else-bits-eq1+else-i-levels w ↦
          path_left c.loop-i.bits c.loop-i.i c.args.levels.now c.loop-i.path c.if-bits-eq1.path all w.if-bits-eq1.false w.if-i-levels.false c.loop-i-test.true w.path-is
          c.loop-i.invariant.0 c.loop-i.invariant.1
    ]
