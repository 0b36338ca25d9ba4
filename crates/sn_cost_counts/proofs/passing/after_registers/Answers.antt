use Rattle.std.proofs.Common.{suc, ◌*◌, List, replicate, nat_eq, ap, sym, ◌∙◌}
use Rattle.std.specs.List.{list_all}
use Rattle.std.proofs.lemmas.List.{length-map}
use Rattle.std.specs.Option.{option_copied}
use Rattle.sn_cost_tally.specs.Weighed.{weighed}
use Rattle.sn_cost_tally.specs.declared.room.Homes.{Homes}
use Rattle.sn_cost_counts.specs.Flows.{starting}
use Rattle.sn_cost_counts.specs.Shared.{flows_in, over_and_marks, staying}
use Rattle.sn_cost_counts.proofs.Going.{wide_sizes}
use Rattle.sn_cost_counts.proofs.Shapes.{overflowed_next, together_next}
use Rattle.sn_cost_counts.proofs.Sharing.{none_of_all, repeated_shared}
use Rattle.sn_cost_counts.proofs.Together.{by_size, same_held}
use Rattle.sn_cost_counts.proofs.passing.after_registers.Goals as goal

pub returns-in-Some-clause-flows : goal.returns-in-Some-clause-flows
returns-in-Some-clause-flows g c =
    let a = c.args in
    let shared = c.in_ok-rows.field-0 in
    let homes : List Homes = shared.homes.items in
    same_held a.depth a.slots.now a.op.now (weighed a.rows (option_copied a.weights)) shared.rows a.more c.in-Some.after (flows_in shared) c.requires.stateful c.in_ok-rows.ensures.rows c.in_ok-rows.ensures.flows
    (none_of_all shared.distinct shared.rows homes ∙ ap (list_all (λ (h : Homes). nat_eq h.over 0)) (sym c.as_slice.ensures.value) ∙ sym c.none_over.ensures ∙ c.if-none_over.true)
    (c.in-Some.ensures ∙ ap (λ n. suc a.more * n) (c.len.ensures ∙ shared.homes.ok.0 ∙ sym (length-map homes (λ (h : Homes). staying shared.distinct shared.rows (over_and_marks h)))))

pub returns-clause-flows : goal.returns-clause-flows
returns-clause-flows g c =
    let a = c.args in
    let shared = c.in_ok-rows.field-0 in
    repeated_shared shared.distinct shared.rows shared.homes.items c.in_ok-homes.homes.items a.more (by_size a.depth a.slots.now a.op.now) (starting (weighed a.rows (option_copied a.weights))) c.in_ok-homes.ensures c.in_ok-rows.ensures.flows
    ∙ wide_sizes a.depth 0 a.slots.now a.op.now (replicate (suc a.more) (starting (weighed a.rows (option_copied a.weights)))) c.requires.stateful

pub returns-in-Some-clause-shape : goal.returns-in-Some-clause-shape
returns-in-Some-clause-shape g c = λ ahead h. together_next c.args.op.now ahead h

pub returns-clause-shape : goal.returns-clause-shape
returns-clause-shape g c = λ ahead h. overflowed_next c.args.op.now ahead c.in_ok-rows.field-0.distinct c.requires.stateful c.in_ok-rows.ensures.distinct h
