use Rattle.std.proofs.Common.{◌≡◌, ◌∷◌, List, replicate, cond, Some, None, true, false, ap, ◌∙◌, rules}
use Rattle.sn_base.specs.Operators.{apply}
use Rattle.sn_types.specs.Cuts.{is_stateful}
use Rattle.sn_types.specs.Values.{op_at}
use Rattle.sn_cost_counts.specs.AnyFlow.{Flow}
use Rattle.sn_cost_counts.specs.Flows.{starting, wider}
use Rattle.sn_cost_counts.specs.Passing.{flows_of, held_by, unsplit_of}
use Rattle.sn_cost_counts.proofs.Going.{if_ok}
use Rattle.sn_cost_counts.proofs.Shapes.{together_next}
use Rattle.sn_cost_counts.proofs.Together.{same_passed, wide_levels}
use Rattle.sn_cost_counts.proofs.Unsplit.{at_all_levels}
use Rattle.sn_cost_counts.proofs.passing.after_same.Goals as goal

pub returns-in_ok-next-clause-flows : goal.returns-in_ok-next-clause-flows
returns-in_ok-next-clause-flows g c =
    let a = c.args in
    let isnt : is_stateful a.op.now ≡ false = search rules in
    same_passed a.depth a.level a.slots.now a.op.now a.rows c.in_ok-next.next a.more isnt c.in_ok-next.ensures

pub returns-then-depth-gt0-clause-flows : goal.returns-then-depth-gt0-clause-flows
returns-then-depth-gt0-clause-flows g c =
    let a = c.args in
    let is : is_stateful a.op.now ≡ true = search rules in
    let first : List Flow = starting a.rows ∷ replicate a.more (starting a.rows) in
    if_ok c.after_one.result (λ next. flows_of next ≡ wider a.depth 0 a.slots.now a.op.now first) _ (λ next same. same ∙ wide_levels a.depth a.level a.slots.now a.op.now first is) c.after_one.ensures.flows

pub returns-else-len-le1-clause-flows : goal.returns-else-len-le1-clause-flows
returns-else-len-le1-clause-flows g c =
    let a = c.args in
    let is : is_stateful a.op.now ≡ true = search rules in
    let first : List Flow = starting a.rows ∷ replicate a.more (starting a.rows) in
    if_ok c.after_registers.result (λ next. flows_of next ≡ wider a.depth 0 a.slots.now a.op.now first) _ (λ next same. same ∙ wide_levels a.depth a.level a.slots.now a.op.now first is) c.after_registers.ensures.flows

pub returns-then-depth-gt0-clause-unsplit : goal.returns-then-depth-gt0-clause-unsplit
returns-then-depth-gt0-clause-unsplit g c =
    let a = c.args in
    let is : is_stateful a.op.now ≡ true = search rules in
    if_ok c.after_one.result (λ next. unsplit_of next ≡ cond a.kept (Some (apply (op_at 0 a.op.now) a.rows)) None) _
    (λ next same. same ∙ ap (λ o. cond a.kept (Some (apply o a.rows)) None) (at_all_levels a.level a.op.now is)) c.after_one.ensures.unsplit

pub returns-then-depth-gt0-clause-held : goal.returns-then-depth-gt0-clause-held
returns-then-depth-gt0-clause-held g c =
    let a = c.args in
    let is : is_stateful a.op.now ≡ true = search rules in
    if_ok c.after_one.result (λ next. held_by next ≡ Some (apply (op_at 0 a.op.now) a.rows)) _ (λ next same. same ∙ ap (λ o. Some (apply o a.rows)) (at_all_levels a.level a.op.now is)) c.after_one.ensures.held

pub returns-else-len-le1-clause-unsplit : goal.returns-else-len-le1-clause-unsplit
returns-else-len-le1-clause-unsplit g c =
    let a = c.args in
    let is : is_stateful a.op.now ≡ true = search rules in
    if_ok c.after_registers.result (λ next. unsplit_of next ≡ cond a.kept (Some (apply (op_at 0 a.op.now) a.rows)) None) _
    (λ next same. same ∙ ap (λ o. cond a.kept (Some (apply o a.rows)) None) (at_all_levels a.level a.op.now is)) c.after_registers.ensures.unsplit

pub returns-else-len-le1-clause-held : goal.returns-else-len-le1-clause-held
returns-else-len-le1-clause-held g c =
    let a = c.args in
    let is : is_stateful a.op.now ≡ true = search rules in
    if_ok c.after_registers.result (λ next. held_by next ≡ Some (apply (op_at 0 a.op.now) a.rows)) _ (λ next same. same ∙ ap (λ o. Some (apply o a.rows)) (at_all_levels a.level a.op.now is)) c.after_registers.ensures.held

pub returns-in_ok-next-clause-shape : goal.returns-in_ok-next-clause-shape
returns-in_ok-next-clause-shape g c = λ ahead h. together_next c.args.op.now ahead h
