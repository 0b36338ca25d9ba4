use Rattle.std.proofs.Common.{◌≡◌, ℕ, List, map, ap, ◌∙◌}
use Rattle.sn_base.specs.Groups.{Row, keyed}
use Rattle.sn_base.specs.Operators.{grouped}
use Rattle.std.specs.Option.{option_copied}
use Rattle.sn_cost_tally.specs.Weighed.{weighed}
use Rattle.sn_cost_counts.proofs.Going.{if_ok}
use Rattle.sn_cost_counts.proofs.grouped.groups_of.Goals as goal

pub returns-clause-rows : goal.returns-clause-rows
returns-clause-rows g c =
    let r = c.args.r.now in
    let rows : List Row = (weighed c.args.rows.now (option_copied c.args.weights)) in
    let at : List ℕ → List Row = λ ks. grouped (record { places = ks; value = r.value; by = r.fold }) (map (keyed ks r.value) rows) in
    if_ok c.group_rows.result (λ groups. groups.rows ≡ at c.as_slice.result.now) _ (λ groups is. is ∙ ap at c.as_slice.ensures) c.group_rows.ensures.rows
