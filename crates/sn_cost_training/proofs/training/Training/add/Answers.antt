use Rattle.std.proofs.Common.{◌<◌, ℕ, length, ap, sym, ◌∙◌, subst, arith}
use Rattle.std.specs.List.{AllByRecursion}
use Rattle.sn_cost_training.specs.declared.training.TrainingWindow.{TrainingWindow}
use Rattle.sn_cost_training.specs.Trained.{Training}
use Rattle.sn_cost_training.proofs.Adding.{added_after, apart_after}
use Rattle.sn_cost_training.proofs.training.Training.add.Goals as goal

pub invariant_of-self : goal.invariant_of-self
invariant_of-self c =
    let w : TrainingWindow = record { number = c.args.number; tuples = c.from_vec.result } in
    let some : 0 < length c.from_vec.result = let e = ap length (c.from_vec.ensures ∙ c.shrink_to_fit.ensures.items) in let empty = c.if-is_empty.ensures in grind (arith, e, empty) in
    apart_after c.self.inside.windows c.push.new.self w c.push.result c.push.ensures.ok c.push.ensures.err c.self.invariant some
    (subst (λ (t : Training). AllByRecursion (λ (n : ℕ). n < c.args.number) t.numbers) (sym c.self.view_is) c.requires)

pub returns-clause-ok : goal.returns-clause-ok
returns-clause-ok c =
    let w : TrainingWindow = record { number = c.args.number; tuples = c.from_vec.result } in
    added_after c.self.inside.windows c.push.new.self w c.push.result c.args.self.now c.args.tuples c.push.ensures.ok c.self.view_is
    (c.from_vec.ensures ∙ c.shrink_to_fit.ensures.items ∙ c.into_vec-held.ensures)
