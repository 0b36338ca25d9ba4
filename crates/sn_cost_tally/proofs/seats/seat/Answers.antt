use Rattle.std.proofs.Common.{◌<◌, ◌∙◌, ℕ, List, [], length, map, get_or, ap, sym, arith}
use Rattle.std.proofs.Math.ListN.{get_or-map}
use Rattle.std.proofs.lemmas.List.{get_or_default, length-map}
use Rattle.sn_base.specs.Groups.{Row}
use Rattle.sn_cost_tally.specs.Largest.{largest_slots}
use Rattle.sn_cost_tally.proofs.Seating.{one_seated, seen_at}
use Rattle.sn_cost_tally.proofs.seats.seat.Goals as goal

pub loop-place-preserved : goal.loop-place-preserved
loop-place-preserved g c =
    let keys : List Row = map g.R.Columns.columns c.args.keys.now in
    let i = c.loop-place.place in
    one_seated c.args.depth c.args.slots keys i (g.R.Columns.columns c.index-keys-place.result) c.loop-place.marks c.take_seat-home.new.marks c.loop-place.homes.items c.push.new.self.items c.take_seat-home.result
    c.requires.some_slots (omega (arith, c.loop-place-test.true, length-map c.args.keys.now g.R.Columns.columns))
    (seen_at g.R.Columns.columns c.args.keys.now i c.index-keys-place.result c.loop-place-test.true c.index-keys-place.is)
    c.requires.apart c.loop-place.invariant c.take_seat-home.ensures.home c.take_seat-home.ensures.taken c.in_ok-push.ensures.items

pub take_seat-home-requires-clause-known : goal.take_seat-home-requires-clause-known
take_seat-home-requires-clause-known g c =
    let keys : List Row = map g.R.Columns.columns c.args.keys.now in
    let i = c.loop-place.place in
    let below : i < length keys = omega (arith, c.loop-place-test.true, length-map c.args.keys.now g.R.Columns.columns) in
    ap (λ (known : List (List ℕ)). get_or known i []) c.requires.known
    ∙ get_or_default (map largest_slots keys) i [] (largest_slots []) (omega (arith, below, length-map keys largest_slots))
    ∙ get_or-map largest_slots keys i []
    ∙ ap largest_slots (sym (seen_at g.R.Columns.columns c.args.keys.now i c.index-keys-place.result c.loop-place-test.true c.index-keys-place.is))
