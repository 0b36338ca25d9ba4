use Rattle.std.proofs.Common.{◌≡◌, List, Bool, filter, map, ap, ◌∙◌}
use Rattle.std.specs.List.{list_all}
use Rattle.sn_base.specs.Groups.{Row}
use Rattle.sn_cost_seats.specs.Tallies.{marked}
use Rattle.sn_cost_seats.proofs.Tallying.{marked_filter}
use Rattle.sn_cost_tally.specs.declared.room.Homes.{Homes}
use Rattle.sn_types.specs.Values.{holds}
use Rattle.sn_cost_counts.specs.Shared.{over_and_marks}
use Rattle.sn_cost_counts.proofs.Sharing.{filter_shared}
use Rattle.sn_cost_counts.proofs.shared.filtered.Goals as goal

pub returns-clause-rows : goal.returns-clause-rows
returns-clause-rows g c =
    let t : Row → Bool = λ row. list_all (λ x. holds c.args.level x row) c.args.conds.now in
    let rows : List Row = c.args.shared.now.rows in
    c.in_ok-rows.ensures ∙ ap (λ (ms : List Bool). marked ms rows) (c.as_slice-3.ensures.value ∙ c.in_ok-stay.ensures) ∙ marked_filter t rows

pub returns-clause-flows : goal.returns-clause-flows
returns-clause-flows g c =
    let t : Row → Bool = λ row. list_all (λ x. holds c.args.level x row) c.args.conds.now in
    let shared = c.args.shared.now in
    let rows : List Row = shared.rows in
    let stay : List Bool = c.in_ok-stay.stay.items in
    let kept : c.in_ok-rows.rows ≡ filter t rows = c.in_ok-rows.ensures ∙ ap (λ (ms : List Bool). marked ms rows) (c.as_slice-3.ensures.value ∙ c.in_ok-stay.ensures) ∙ marked_filter t rows in
    let out : map over_and_marks c.in_ok-homes.homes.items ≡ map (λ (h : Homes). (h.over, marked stay h.marks.items)) shared.homes.items =
    c.in_ok-homes.ensures
    ∙ ap (λ (hs : List Homes). map (λ (h : Homes). (h.over, marked c.as_slice-2.result.now h.marks.items)) hs) c.as_slice.ensures.value
    ∙ ap (λ (ms : List Bool). map (λ (h : Homes). (h.over, marked ms h.marks.items)) shared.homes.items) c.as_slice-2.ensures.value in
    filter_shared shared.distinct t rows c.in_ok-rows.rows shared.homes.items c.in_ok-homes.homes.items stay c.in_ok-stay.ensures kept out
