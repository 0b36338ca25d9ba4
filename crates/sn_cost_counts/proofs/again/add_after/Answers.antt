use Rattle.std.proofs.Common.{List, ◌++◌, length, map, ap, sym, ◌∙◌, arith}
use Rattle.std.proofs.lemmas.List.{take_all}
use Rattle.sn_base.proofs.Lists.{map_both}
use Rattle.sn_cost_tally.specs.declared.room.Homes.{Homes}
use Rattle.sn_cost_counts.specs.AnyFlow.{Flow}
use Rattle.sn_cost_counts.specs.Shared.{following, over_and_marks, staying}
use Rattle.sn_cost_counts.proofs.again.add_after.Goals as goal

pub returns : goal.returns
returns g c =
    let shared = c.args.shared.now in
    let before : Flow = c.args.before.now in
    let old : List Flow = c.args.out.now.items in
    let one : Homes → Flow = λ h. staying shared.distinct shared.rows (over_and_marks h) in
    c.loop-homes.invariant
    ∙ ap (λ (hs : List Homes). old ++ map (λ h. following before (one h)) hs) (take_all c.loop-homes.homes-index shared.homes.items (omega (arith, c.loop-homes-test.false, ap length c.as_slice-homes-items.ensures.value)))
    ∙ ap (λ (fs : List Flow). old ++ fs) (sym (map_both one (following before) shared.homes.items))
