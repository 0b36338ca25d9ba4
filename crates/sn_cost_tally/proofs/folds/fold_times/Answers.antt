use Rattle.std.proofs.Common.{ℕ, fold, replicate, ap, sym, ◌∙◌}
use Rattle.std.proofs.lemmas.List.{replicate_more}
use Rattle.std.proofs.lemmas.List.Sums.{fold_push}
use Rattle.sn_base.specs.AnyFold.{any_step, any_unit}
use Rattle.sn_cost_tally.proofs.folds.fold_times.Goals as goal

pub loop-preserved : goal.loop-preserved
loop-preserved c =
    let a = c.args in
    let n : ℕ = c.loop.counter in
    let so_far = c.loop.invariant in
    record {
      is = c.step-total.ensures.value ∙ ap (λ (total : ℕ). any_step a.fold total a.value) so_far.is
          ∙ sym (fold_push (any_step a.fold) (any_unit a.fold) (replicate n a.value) a.value) ∙ ap (fold (any_step a.fold) (any_unit a.fold)) (replicate_more n a.value);
      had = c.step-total.ensures.had;
    }
