use Rattle.std.proofs.Common.{◌∷◌, ◌∙◌, ap, length, refl, arith}
use Rattle.sn_plan_space.proofs.Nexts.{found_next, less_left}
use Rattle.sn_plan_space.proofs.place.next_waiting.Goals as goal

pub returns-in-Keyed : goal.returns-in-Keyed
returns-in-Keyed c = λ tables e.
    found_next c.args.stages c.args.least c.loop-slot.at c.in-Keyed.bits _ c.loop-slot.rest.now c.in-Some.following.now tables
    (c.in-Some.ensures.cases.0 ∙ ap (λ k. k ∷ c.in-Some.following.now) c.in-Keyed.is) (c.loop-slot.invariant.left tables e) refl refl refl

pub loop-slot-preserved : goal.loop-slot-preserved
loop-slot-preserved c =
    let cases = c.in-Some.ensures.cases.0 in
    let long = ap length cases in
    let near = c.loop-slot.invariant.near in
    let few = c.loop-slot.invariant.few in
    record {
      near = omega arith;
      few = omega arith;
      left = λ tables e. less_left c.args.stages c.args.least c.loop-slot.at c.loop-slot.rest.now c.in-Some.following.now tables
          (cases ∙ ap (λ k. k ∷ c.in-Some.following.now) c.in-Plain.is) (c.loop-slot.invariant.left tables e);
    }
